use Rattle.std.proofs.Common.{◌<◌, ◌∙◌, sym, ap, subst}
use Rattle.type_hierarchy.specs.Bits.{has_bit}
use Rattle.type_hierarchy.specs.Table.{TypeTable, has_member, set_of}
use Rattle.type_hierarchy.proofs.SetLemmas.{member_bits, set_by_row}
use Rattle.type_hierarchy.proofs.hierarchy.Hierarchy.below.Goals as goal

pub returns : goal.returns
returns c =
    let written = ap (λ (t : TypeTable). t.written) c.self.view_is in
    let in_b = subst (λ n. c.args.b < n) (sym written) c.requires.b_in in
    let in_a = subst (λ n. c.args.a < n) (sym written) c.requires.a_in in
    c.has.ensures ∙ ap (λ w. has_bit w c.args.a) c.deref.ensures.value ∙ sym (member_bits _ c.index.result.now.items c.args.a in_a)
    ∙ ap (λ l. has_member l c.args.a) (sym (set_by_row _ c.self.inside.rows.items c.args.b c.index.result.now in_b c.index.ensures))
    ∙ ap (λ t. has_member (set_of t c.args.b) c.args.a) c.self.view_is
