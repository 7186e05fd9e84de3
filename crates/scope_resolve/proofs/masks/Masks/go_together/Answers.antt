use Rattle.std.proofs.Common.{◌∙◌, sym, ap, false}
use Rattle.std.specs.Prelude.{slice_index_or}
use Rattle.scope_resolve.proofs.Masking.{together_on}
use Rattle.scope_resolve.proofs.masks.Masks.go_together.Goals as goal

pub returns : goal.returns
returns c = λ f s seen is.
    let m = c.mark_at.ensures ∙ ap (λ ms. slice_index_or ms c.args.pair.from false) c.deref.ensures.value in
    together_on f s c.args.ways.now seen c.args.pair is (sym m ∙ c.if-mark_at.false) c.at-above.result c.at-below.result _ _ _ c.at-above.ensures c.at-below.ensures c.narrow.ensures c.narrow-2.ensures
