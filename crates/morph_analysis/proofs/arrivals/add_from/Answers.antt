use Rattle.std.proofs.Common.{◌∙◌, sym}
use Rattle.morph_analysis.proofs.ArrivalLemmas.{from_step, not_false}
use Rattle.morph_analysis.specs.LatticeViews.{step_of}
use Rattle.std.proofs.lemmas.Slice.Eq.{bytes_eq-Decides}
use Rattle.morph_analysis.proofs.arrivals.add_from.Goals as goal

pub returns : goal.returns
returns c =
    from_step (step_of c.args.step.now) c.args.word.now c.args.out.now.items c.push.new.self.items c.in_ok-push.ensures.items
    (sym c.as_str.ensures.value ∙ (bytes_eq-Decides c.as_str.result.now c.args.word.now).0 (not_false _ (sym c.ne.ensures ∙ c.if-ne.false)))
