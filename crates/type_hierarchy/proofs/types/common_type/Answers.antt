use Rattle.std.proofs.Common.{◌∙◌, ◌&&◌, ap, sym, subst, arith, length, slice_index}
use Rattle.type_hierarchy.specs.Bits.{has_bit, IsRow}
use Rattle.type_hierarchy.specs.Inner.Tables.{row_items, place_of_common}
use Rattle.type_hierarchy.proofs.TypeLemmas.{none_common, row_at_is, same_size, found_within}
use Rattle.type_hierarchy.proofs.MarkLemmas.{apart_by_marks}
use Rattle.type_hierarchy.proofs.types.common_type.Goals as goal

pub are_disjoint_in-requires : goal.are_disjoint_in-requires
are_disjoint_in-requires c =
    let x = row_at_is c.args.written c.args.sets.now.keys c.args.a c.requires.rows c.requires.a_in in
    let y = row_at_is c.args.written c.args.sets.now.keys c.args.b c.requires.rows c.requires.b_in in
    ap length c.row-x.ensures ∙ same_size c.args.written _ _ x y ∙ sym (ap length c.row-y.ensures)

pub returns-then-are_disjoint_in : goal.returns-then-are_disjoint_in
returns-then-are_disjoint_in c =
    sym (none_common c.args.written c.args.sets.now.keys _ _
    (apart_by_marks _ _ (slice_index c.args.marks.now c.args.a) (slice_index c.args.marks.now c.args.b) (c.requires.marks.each c.args.a c.requires.a_in) (c.requires.marks.each c.args.b c.requires.b_in)
    (λ z g. ap (λ l. has_bit l z && has_bit (row_items c.args.sets.now.keys c.args.b) z) (sym c.row-x.ensures) ∙ ap (λ l. has_bit c.row-x.result.now z && has_bit l z) (sym c.row-y.ensures)
    ∙ c.are_disjoint_in.ensures.0 c.if-are_disjoint_in.true z g))
    c.requires.filled)

pub find_in_room-requires-clause-few : goal.find_in_room-requires-clause-few
find_in_room-requires-clause-few c =
    let x = row_at_is c.args.written c.args.sets.now.keys c.args.a c.requires.rows c.requires.a_in in
    omega (arith, x.spare, c.requires.few, ap length c.row-x.ensures)

pub find_in_room-requires-clause-same_size : goal.find_in_room-requires-clause-same_size
find_in_room-requires-clause-same_size c =
    let x = row_at_is c.args.written c.args.sets.now.keys c.args.a c.requires.rows c.requires.a_in in
    let y = row_at_is c.args.written c.args.sets.now.keys c.args.b c.requires.rows c.requires.b_in in
    ap length c.row-x.ensures ∙ same_size c.args.written _ _ x y ∙ sym (ap length c.row-y.ensures)

pub returns-in_err-place : goal.returns-in_err-place
returns-in_err-place c =
    let x = row_at_is c.args.written c.args.sets.now.keys c.args.a c.requires.rows c.requires.a_in in
    rw c.from_residual.ensures (c.in_err-place.ensures c.args.written c.requires.rows (subst (IsRow c.args.written) (sym c.row-x.ensures) x)
    ∙ ap (λ l. place_of_common c.args.written c.args.sets.now.keys l c.row-y.result.now) c.row-x.ensures
    ∙ ap (place_of_common c.args.written c.args.sets.now.keys (row_items c.args.sets.now.keys c.args.a)) c.row-y.ensures)

pub overflow_cast-result : goal.overflow_cast-result
overflow_cast-result c =
    let x = row_at_is c.args.written c.args.sets.now.keys c.args.a c.requires.rows c.requires.a_in in
    let h = found_within c.args.written c.args.sets.now.keys _ _ c.in_ok-place.place (c.in_ok-place.ensures c.args.written c.requires.rows (subst (IsRow c.args.written) (sym c.row-x.ensures) x)) in
    record { fits = omega (arith, h, c.requires.small) }

pub returns : goal.returns
returns c =
    let x = row_at_is c.args.written c.args.sets.now.keys c.args.a c.requires.rows c.requires.a_in in
    c.in_ok-place.ensures c.args.written c.requires.rows (subst (IsRow c.args.written) (sym c.row-x.ensures) x)
    ∙ ap (λ l. place_of_common c.args.written c.args.sets.now.keys l c.row-y.result.now) c.row-x.ensures
    ∙ ap (place_of_common c.args.written c.args.sets.now.keys (row_items c.args.sets.now.keys c.args.a)) c.row-y.ensures
