use Rattle.std.proofs.Common.{◌<◌, ◌∙◌, length, ap, sym, arith}
use Rattle.std.proofs.lemmas.List.{length-map}
use Rattle.type_hierarchy.specs.Bits.{has_bit, bits_below}
use Rattle.type_hierarchy.specs.Table.{TypeTable, set_of, has_member}
use Rattle.type_hierarchy.proofs.RowLemmas.{row_is}
use Rattle.type_hierarchy.proofs.TypeLemmas.{table_member}
use Rattle.type_hierarchy.proofs.types.Types.may_be_above.Goals as goal

pub returns-clause-has : goal.returns-clause-has
returns-clause-has c = λ b b_in e.
    let size = length-map c.self.inside.sets.keys (λ row. bits_below c.self.inside.written row.items) in
    let b_key : b < length c.self.inside.sets.keys = omega (arith, b_in, ap (λ (t : TypeTable). length t.sets) c.self.view_is, size) in
    let x_in : c.written_below.result < c.self.inside.written = omega (arith, c.written_below.ensures.written, ap (λ (t : TypeTable). t.written) c.self.view_is) in
    let column = row_is c.self.inside.columns.items c.written_below.result c.index.result.now (omega (arith, x_in, c.self.invariant.columns_are.one_each)) c.index.ensures in
    ap (λ q. has_bit q b) (c.deref.ensures.value ∙ sym column) ∙ c.self.invariant.columns_are.told c.written_below.result b x_in b_key
    ∙ sym (table_member c.self.inside.names.items c.self.inside.sets.keys c.self.inside.written c.self.inside.string_type b c.written_below.result b_key x_in)
    ∙ ap (λ t. has_member (set_of t b) c.written_below.result) c.self.view_is ∙ c.written_below.ensures.member b b_in e
