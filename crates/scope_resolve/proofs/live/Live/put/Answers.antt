use Rattle.std.proofs.Common.{◌∙◌, sym, ap, false}
use Rattle.std.specs.Prelude.{slice_index_or}
use Rattle.scope_resolve.specs.Inner.Pruning.{IsPair}
use Rattle.scope_resolve.proofs.Planning.{more_at}
use Rattle.scope_resolve.proofs.Masking.{torn}
use Rattle.scope_resolve.proofs.live.Live.put.Goals as goal

pub returns-then-mark_at-2-clause-torn : goal.returns-then-mark_at-2-clause-torn
returns-then-mark_at-2-clause-torn c = λ y f s seen is.
    let m = c.mark_at.ensures ∙ ap (λ ms. slice_index_or ms c.args.pair.from false) c.deref.ensures.value in
    let n = c.mark_at-2.ensures ∙ ap (λ ms. slice_index_or ms c.args.pair.to false) c.deref-2.ensures.value in
    torn f s c.args.ways.now seen c.args.pair is (sym m ∙ c.if-mark_at.false) (sym n ∙ c.if-mark_at-2.true)

pub returns-clause-live : goal.returns-clause-live
returns-clause-live c = λ f is old. more_at (IsPair f) _ c.args.pair _ c.in_ok-push.ensures.items old is
