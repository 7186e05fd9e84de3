use Rattle.std.proofs.Common.{◌∙◌, sym, ap, false}
use Rattle.std.specs.Prelude.{slice_index_or}
use Rattle.scope_resolve.proofs.Masking.{waits_on}
use Rattle.scope_resolve.proofs.masks.Masks.wait.Goals as goal

pub returns : goal.returns
returns c = λ f s seen is.
    let m = c.mark_at.ensures ∙ ap (λ ms. slice_index_or ms c.args.pair.from false) c.deref.ensures.value in
    waits_on f s c.args.ways.now seen c.args.pair is (sym m ∙ c.if-mark_at.false) c.if-pair.false c.none.result _ _ c.narrow.ensures
