use Rattle.std.proofs.Common.{◌∙◌, sym, ap, false}
use Rattle.std.specs.Prelude.{slice_index_or}
use Rattle.scope_resolve.proofs.Planning.{forced_in}
use Rattle.scope_resolve.proofs.plan.forced.Goals as goal

pub returns : goal.returns
returns c = forced_in c.args.net.now c.requires.net c.args.opening c.requires.there (ap (λ ms. slice_index_or ms c.args.opening.hole false) (sym c.deref.ensures.value) ∙ (sym c.mark_at.ensures ∙ c.if-not-mark_at.false))
