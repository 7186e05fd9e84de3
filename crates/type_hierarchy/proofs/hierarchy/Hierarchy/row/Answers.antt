use Rattle.std.proofs.Common.{◌<◌, ◌∙◌, sym, ap, subst}
use Rattle.type_hierarchy.specs.Bits.{has_bit}
use Rattle.type_hierarchy.specs.Table.{TypeTable, has_member, set_of}
use Rattle.type_hierarchy.proofs.SetLemmas.{member_bits, set_by_row}
use Rattle.type_hierarchy.proofs.hierarchy.Hierarchy.row.Goals as goal

pub returns-clause-members : goal.returns-clause-members
returns-clause-members c = λ x h.
    let written = ap (λ (t : TypeTable). t.written) c.self.view_is in
    let in_t = subst (λ n. c.args.t < n) (sym written) c.requires in
    let in_x = subst (λ n. x < n) (sym written) h in
    ap (λ w. has_bit w x) c.deref.ensures.value ∙ sym (member_bits _ c.index.result.now.items x in_x)
    ∙ ap (λ l. has_member l x) (sym (set_by_row _ c.self.inside.rows.items c.args.t c.index.result.now in_t c.index.ensures))
    ∙ ap (λ t. has_member (set_of t c.args.t) x) c.self.view_is
