use Rattle.std.proofs.Common.{◌∙◌, sym, ap, false}
use Rattle.std.specs.Prelude.{slice_index_or}
use Rattle.scope_resolve.specs.Inner.Nets.{frame_in}
use Rattle.scope_resolve.proofs.Planning.{label_chain, label_pair}
use Rattle.scope_resolve.proofs.plan.Plan.put_qeq.Goals as goal

pub returns-then-mark_at : goal.returns-then-mark_at
returns-then-mark_at c = λ old.
    let n = c.args.net.now in
    let q = c.args.qeq in
    let y = ap (λ ms. slice_index_or ms q.left false) (sym c.deref.ensures.value) ∙ (sym c.mark_at.ensures ∙ c.if-mark_at.true) in
    c.in_ok-put_from_label.ensures (frame_in n.parts) (label_chain n c.requires.net q c.requires.there y) (label_pair n c.requires.net q c.requires.there y) old
