use Rattle.std.proofs.Common.{◌∙◌, ◌<◌, ap, sym, subst, arith, length}
use Rattle.type_hierarchy.specs.Bits.{bits_below}
use Rattle.type_hierarchy.specs.Table.{meet_of, type_of_set, intersection, set_of}
use Rattle.type_hierarchy.specs.Laws.{IsOrder}
use Rattle.type_hierarchy.specs.Inner.Tables.{types_table, row_items}
use Rattle.std.proofs.lemmas.List.{length-map}
use Rattle.type_hierarchy.proofs.LawLemmas.{meet_sets}
use Rattle.type_hierarchy.proofs.TypeLemmas.{meet_lower, meet_swaps, set_row}
use Rattle.type_hierarchy.proofs.types.Types.meet.Goals as goal

pub returns-then-at_or_below : goal.returns-then-at_or_below
returns-then-at_or_below c = sym (meet_lower c.args.self.now (subst IsOrder c.self.view_is c.self.invariant.order) c.args.a.0 c.args.b.0 (sym c.at_or_below.ensures ∙ c.if-at_or_below.true))

pub returns-then-at_or_below-2 : goal.returns-then-at_or_below-2
returns-then-at_or_below-2 c = sym (meet_swaps c.args.self.now (subst IsOrder c.self.view_is c.self.invariant.order) c.args.a.0 c.args.b.0 (sym c.at_or_below.ensures ∙ c.if-at_or_below.false) (sym c.at_or_below-2.ensures ∙ c.if-at_or_below-2.true))

pub common_type-requires-clause-filled : goal.common_type-requires-clause-filled
common_type-requires-clause-filled c = λ k h e.
    c.self.invariant.order.nonempty k (omega (arith, h, length-map c.self.inside.sets.keys (λ row. bits_below c.self.inside.written row.items))) (set_row c.self.inside.written c.self.inside.sets.keys k h ∙ e)

pub returns : goal.returns
returns c =
    let b_in : c.args.b.0 < length c.self.inside.sets.keys = omega (arith, c.if-b-completed.false, c.len-completed.ensures.len) in
    let a_in : c.args.a.0 < length c.self.inside.sets.keys = omega (arith, c.if-a-completed.false, c.len-completed.ensures.len) in
    let t = types_table c.self.inside.names.items c.self.inside.sets.keys c.self.inside.written c.self.inside.string_type in
    let size = length-map c.self.inside.sets.keys (λ row. bits_below c.self.inside.written row.items) in
    c.common_type.ensures
    ∙ ap (λ l. type_of_set t (intersection l (bits_below c.self.inside.written (row_items c.self.inside.sets.keys c.args.b.0)))) (sym (set_row c.self.inside.written c.self.inside.sets.keys c.args.a.0 a_in))
    ∙ ap (λ l. type_of_set t (intersection (set_of t c.args.a.0) l)) (sym (set_row c.self.inside.written c.self.inside.sets.keys c.args.b.0 b_in))
    ∙ sym (meet_sets t c.args.a.0 c.args.b.0 (omega (arith, a_in, size)) (omega (arith, b_in, size)))
    ∙ ap (λ x. meet_of x c.args.a.0 c.args.b.0) c.self.view_is
