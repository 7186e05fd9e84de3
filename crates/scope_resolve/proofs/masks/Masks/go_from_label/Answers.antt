use Rattle.std.proofs.Common.{◌∙◌, sym, ap, false}
use Rattle.std.specs.Prelude.{slice_index_or}
use Rattle.scope_resolve.proofs.Masking.{placed_from}
use Rattle.scope_resolve.proofs.masks.Masks.go_from_label.Goals as goal

pub returns : goal.returns
returns c = λ f s seen is.
    let m = c.mark_at.ensures ∙ ap (λ ms. slice_index_or ms c.args.link.from false) c.deref.ensures.value in
    c.go_along.ensures f s seen (placed_from f s c.args.ways.now seen c.args.link.from is.from (sym m ∙ c.if-not-mark_at.false)) (λ p r x. is.reaches p r)
