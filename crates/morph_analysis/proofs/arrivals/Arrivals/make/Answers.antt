use Rattle.std.proofs.Common.{rules, ◌∙◌}
use Rattle.morph_analysis.proofs.Lists.{all_taken}
use Rattle.morph_analysis.proofs.ArrivalLemmas.{same_steps}
use Rattle.std.proofs.lemmas.List.Sorted.{IsNonDecreasingBy-from_sort_by_key}
use Rattle.morph_analysis.proofs.arrivals.Arrivals.make.Goals as goal

pub invariant_of-result : goal.invariant_of-result
invariant_of-result c = IsNonDecreasingBy-from_sort_by_key (λ s. s.now.to) _ c.in_ok-sort_by_key.ensures.sorted (λ a r q k. search rules)

pub returns : goal.returns
returns c = same_steps (λ s. s.now) c.loop-step.sorted.items c.sort_by_key.new.self.items c.args.steps.now (c.loop-step.invariant ∙ all_taken c.args.steps.now c.loop-step.step-index c.loop-step-test.false) c.in_ok-sort_by_key.ensures.permutation
