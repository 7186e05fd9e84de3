use Rattle.std.proofs.Common.{◌∙◌}
use Rattle.morph_analysis.proofs.Lists.{all_taken}
use Rattle.morph_analysis.proofs.ArrivalLemmas.{same_steps}
use Rattle.morph_analysis.proofs.analysis.steps_by_word.Goals as goal

pub returns : goal.returns
returns c = same_steps (λ s. s.now) c.loop-step.sorted.items c.sort_by.new.self.items c.args.steps.now (c.loop-step.invariant ∙ all_taken c.args.steps.now c.loop-step.step-index c.loop-step-test.false) c.in_ok-sort_by.ensures.permutation
