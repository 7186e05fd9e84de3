use Rattle.std.proofs.Common.{◌∙◌, sym, ap, false}
use Rattle.std.specs.Prelude.{slice_index_or}
use Rattle.scope_resolve.proofs.Masking.{under_on}
use Rattle.scope_resolve.proofs.masks.Masks.go_under.Goals as goal

pub returns : goal.returns
returns c = λ f s seen is.
    let m = c.mark_at.ensures ∙ ap (λ ms. slice_index_or ms c.args.under.owner false) c.deref.ensures.value in
    under_on f s c.args.ways.now seen c.args.under is (sym m ∙ c.if-not-mark_at.false) c.below_at.result c.below_at-2.result c.join-set.result c.below_at.ensures c.below_at-2.ensures c.join-set.ensures _ _ c.narrow.ensures
