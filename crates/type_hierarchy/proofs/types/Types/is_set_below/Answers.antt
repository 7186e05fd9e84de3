use Rattle.std.proofs.Common.{◌∙◌, ◌<◌, ap, sym, arith, length}
use Rattle.type_hierarchy.specs.Bits.{has_bit, bits_below}
use Rattle.type_hierarchy.specs.Table.{TypeTable, is_set_below}
use Rattle.type_hierarchy.specs.Inner.Tables.{types_table}
use Rattle.std.proofs.lemmas.List.{length-map}
use Rattle.type_hierarchy.proofs.TypeLemmas.{row_at_is, same_size, added_below, not_set_below, mark_read, member_below, table_member, table_subset}
use Rattle.type_hierarchy.proofs.MarkLemmas.{marks_within, within_by_mark}
use Rattle.type_hierarchy.proofs.types.Types.is_set_below.Goals as goal

pub returns-then-mark-other : goal.returns-then-mark-other
returns-then-mark-other c =
    let size = length-map c.self.inside.sets.keys (λ row. bits_below c.self.inside.written row.items) in
    let a_in : c.args.a < length c.self.inside.sets.keys = omega (arith, c.requires.a_in, ap (λ (t : TypeTable). length t.sets) c.self.view_is, size) in
    let b_in : c.args.b < length c.self.inside.sets.keys = omega (arith, c.requires.b_in, ap (λ (t : TypeTable). length t.sets) c.self.view_is, size) in
    let t = types_table c.self.inside.names.items c.self.inside.sets.keys c.self.inside.written c.self.inside.string_type in
    let mine = mark_read c.self.inside.sets.keys c.self.inside.marks.items c.args.a c.index.result.now c.self.invariant.marks_are a_in c.index.ensures in
    let other = mark_read c.self.inside.sets.keys c.self.inside.marks.items c.args.b c.index-2.result.now c.self.invariant.marks_are b_in c.index-2.ensures in
    let both = table_subset c.self.inside.names.items c.self.inside.sets.keys c.self.inside.written c.self.inside.string_type c.args.a c.args.b a_in b_in c.self.invariant.rows_are in
    sym (not_set_below t c.args.a c.args.b (λ sub. c.if-mark-other.true (marks_within _ _ c.index.result.now c.index-2.result.now mine other (both.1 sub))))
    ∙ ap (λ x. is_set_below x c.args.a c.args.b) c.self.view_is

pub has-requires : goal.has-requires
has-requires c =
    let b_in : c.args.b < length c.self.inside.sets.keys = omega (arith, c.requires.b_in, ap (λ (t : TypeTable). length t.sets) c.self.view_is, length-map c.self.inside.sets.keys (λ row. bits_below c.self.inside.written row.items)) in
    let row = row_at_is _ c.self.inside.sets.keys c.args.b c.self.invariant.rows_are b_in in
    omega (arith, row.enough, c.if-a-self.true, ap length c.row.ensures)

pub returns-then-a-self : goal.returns-then-a-self
returns-then-a-self c =
    let size = length-map c.self.inside.sets.keys (λ row. bits_below c.self.inside.written row.items) in
    let b_in : c.args.b < length c.self.inside.sets.keys = omega (arith, c.requires.b_in, ap (λ (t : TypeTable). length t.sets) c.self.view_is, size) in
    let t = types_table c.self.inside.names.items c.self.inside.sets.keys c.self.inside.written c.self.inside.string_type in
    c.has.ensures ∙ ap (λ w. has_bit w c.args.a) c.row.ensures
    ∙ sym (table_member c.self.inside.names.items c.self.inside.sets.keys c.self.inside.written c.self.inside.string_type c.args.b c.args.a b_in c.if-a-self.true)
    ∙ member_below t c.self.invariant.order c.args.a c.args.b c.if-a-self.true (omega (arith, b_in, size))
    ∙ ap (λ x. is_set_below x c.args.a c.args.b) c.self.view_is

pub is_subset_in-requires : goal.is_subset_in-requires
is_subset_in-requires c =
    let size = length-map c.self.inside.sets.keys (λ row. bits_below c.self.inside.written row.items) in
    let a_in : c.args.a < length c.self.inside.sets.keys = omega (arith, c.requires.a_in, ap (λ (t : TypeTable). length t.sets) c.self.view_is, size) in
    let b_in : c.args.b < length c.self.inside.sets.keys = omega (arith, c.requires.b_in, ap (λ (t : TypeTable). length t.sets) c.self.view_is, size) in
    ap length c.row-2.ensures ∙ same_size c.self.inside.written _ _ (row_at_is _ c.self.inside.sets.keys c.args.a c.self.invariant.rows_are a_in) (row_at_is _ c.self.inside.sets.keys c.args.b c.self.invariant.rows_are b_in)
    ∙ sym (ap length c.row-3.ensures)

pub returns : goal.returns
returns c =
    let size = length-map c.self.inside.sets.keys (λ row. bits_below c.self.inside.written row.items) in
    let a_in : c.args.a < length c.self.inside.sets.keys = omega (arith, c.requires.a_in, ap (λ (t : TypeTable). length t.sets) c.self.view_is, size) in
    let b_in : c.args.b < length c.self.inside.sets.keys = omega (arith, c.requires.b_in, ap (λ (t : TypeTable). length t.sets) c.self.view_is, size) in
    let t = types_table c.self.inside.names.items c.self.inside.sets.keys c.self.inside.written c.self.inside.string_type in
    let mine = mark_read c.self.inside.sets.keys c.self.inside.marks.items c.args.a c.index.result.now c.self.invariant.marks_are a_in c.index.ensures in
    let both = table_subset c.self.inside.names.items c.self.inside.sets.keys c.self.inside.written c.self.inside.string_type c.args.a c.args.b a_in b_in c.self.invariant.rows_are in
    added_below t c.args.a c.args.b c.is_subset_in.result (omega (arith, b_in, size))
    (λ e. both.0 (within_by_mark _ _ c.index.result.now mine
    (λ x g m. ap (λ w. has_bit w x) (sym c.row-3.ensures) ∙ c.is_subset_in.ensures.0 e x g (ap (λ w. has_bit w x) c.row-2.ensures ∙ m))))
    (λ f. c.is_subset_in.ensures.1 (λ x g m. ap (λ w. has_bit w x) c.row-3.ensures ∙ both.1 f x (ap (λ w. has_bit w x) (sym c.row-2.ensures) ∙ m)))
    ∙ ap (λ x. is_set_below x c.args.a c.args.b) c.self.view_is
