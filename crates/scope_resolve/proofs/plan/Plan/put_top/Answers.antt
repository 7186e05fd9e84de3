use Rattle.std.proofs.Common.{◌∙◌, sym, ap, false}
use Rattle.std.specs.Prelude.{slice_index_or}
use Rattle.scope_resolve.specs.Inner.Nets.{frame_in}
use Rattle.scope_resolve.proofs.Planning.{top_chain}
use Rattle.scope_resolve.proofs.plan.Plan.put_top.Goals as goal

pub returns : goal.returns
returns c = λ old.
    let n = c.args.net.now in
    c.in_ok-put_from_root.ensures (frame_in n.parts) (top_chain n c.requires (ap (λ ms. slice_index_or ms n.parts.top false) (sym c.deref.ensures.value) ∙ (sym c.mark_at.ensures ∙ c.if-not-mark_at.false))) old
