use Rattle.std.proofs.Common.{◌<◌, ◌≡◌, ◌∙◌, ◌++◌, ◌+◌, ◌^◌, All, ap, sym, subst, length, map, take, arith}
use Rattle.std.proofs.lemmas.List.{length-map}
use Rattle.std.specs.List.{range_with_len}
use Rattle.std.specs.String.{string_bytes}
use Rattle.type_hierarchy.specs.Bits.{IsRow}
use Rattle.type_hierarchy.specs.Decls.{texts}
use Rattle.type_hierarchy.specs.Inner.Reach.{lists}
use Rattle.type_hierarchy.specs.Inner.Tables.{sets_of}
use Rattle.type_hierarchy.specs.Named.{ArePlaces}
use Rattle.type_hierarchy.specs.Inner.Marks.{AreMarks}
use Rattle.type_hierarchy.specs.Inner.Columns.{AreColumns}
use Rattle.type_hierarchy.specs.Laws.{IsRising, IsHierarchy}
use Rattle.type_hierarchy.specs.Table.{TypeTable, IsDistinct, glb_name}
use Rattle.type_hierarchy.proofs.FamilyLemmas.{types_inside, table_is, rows_distinct, added_rising, sets_same, names_enough}
use Rattle.type_hierarchy.proofs.types.Types.of_sets.Goals as goal

pub with_rows-requires-clause-rows : goal.with_rows-requires-clause-rows
with_rows-requires-clause-rows c =
    let w : length c.h.inside.rows.items ≡ c.len-written.result = omega (arith, c.len-written.ensures, c.h.inside.rows.ok) in
    subst (λ n. All (λ row. IsRow n row.items) c.h.inside.rows.items) w c.h.invariant.rows_are

pub with_rows-requires-clause-rising : goal.with_rows-requires-clause-rising
with_rows-requires-clause-rising c =
    let w : length c.h.inside.rows.items ≡ c.len-written.result = omega (arith, c.len-written.ensures, c.h.inside.rows.ok) in
    subst (λ n. All (λ m. IsRising n m.items) c.deref.result.now) (sym (ap (λ (t : TypeTable). t.written) c.h.view_is) ∙ w)
    (subst (λ l. All (λ m. IsRising c.args.h.written m.items) l) (sym c.deref.ensures.value) (added_rising c.args.h c.args.added.items c.requires))

pub indexed-requires : goal.indexed-requires
indexed-requires c =
    let w : length c.h.inside.rows.items ≡ c.len-written.result = omega (arith, c.len-written.ensures, c.h.inside.rows.ok) in
    let sets = sets_same _ c.len-written.result c.args.h c.h.inside.rows.items c.in_ok-rows.rows.items c.args.added.items c.deref.result.now w (ap (λ (t : TypeTable). t.sets) c.h.view_is) c.deref.ensures.value c.in_ok-rows.ensures.sets in
    rows_distinct c.len-written.result c.in_ok-rows.rows.items (subst IsDistinct (sym sets) c.requires.once)

pub overflow_cast-len-2 : goal.overflow_cast-len-2
overflow_cast-len-2 c =
    let w : length c.h.inside.rows.items ≡ c.len-written.result = omega (arith, c.len-written.ensures, c.h.inside.rows.ok) in
    let sets = sets_same _ c.len-written.result c.args.h c.h.inside.rows.items c.in_ok-rows.rows.items c.args.added.items c.deref.result.now w (ap (λ (t : TypeTable). t.sets) c.h.view_is) c.deref.ensures.value c.in_ok-rows.ensures.sets in
    let count : c.len-3.result ≡ length (lists c.args.added.items) = omega (arith, c.len-3.ensures, c.args.added.ok, length-map c.args.added.items (λ v. v.items)) in
    let enough = names_enough c.in_ok-names.names.items c.in_ok-sets.sets.keys c.len-written.result c.args.h (lists c.args.added.items) (texts c.args.strings.now) (subst IsHierarchy c.h.view_is c.h.invariant.laws)
    (c.in_ok-names.ensures ∙ ap (λ l. l ++ map glb_name (range_with_len 1 c.len-3.result) ++ texts c.args.strings.now) (ap (λ (t : TypeTable). t.names) c.h.view_is)
    ∙ ap (λ n. c.args.h.names ++ map glb_name (range_with_len 1 n) ++ texts c.args.strings.now) count)
    (ap (sets_of c.len-written.result) c.in_ok-sets.ensures ∙ sets) in
    let few = c.have_numbers.ensures.0 c.if-not-have_numbers.false in
    record { fits = omega (arith, enough.1, few, c.len-4.ensures.len, w, ap (λ (t : TypeTable). t.written) c.h.view_is, c.len.ensures, c.len-2.ensures, c.h.inside.rows.ok, c.args.added.ok, length-map c.args.added.items (λ v. v.items)) }

pub places_of-requires : goal.places_of-requires
places_of-requires c =
    let w : length c.h.inside.rows.items ≡ c.len-written.result = omega (arith, c.len-written.ensures, c.h.inside.rows.ok) in
    let sets = sets_same _ c.len-written.result c.args.h c.h.inside.rows.items c.in_ok-rows.rows.items c.args.added.items c.deref.result.now w (ap (λ (t : TypeTable). t.sets) c.h.view_is) c.deref.ensures.value c.in_ok-rows.ensures.sets in
    let count : c.len-3.result ≡ length (lists c.args.added.items) = omega (arith, c.len-3.ensures, c.args.added.ok, length-map c.args.added.items (λ v. v.items)) in
    let enough = names_enough c.in_ok-names.names.items c.in_ok-sets.sets.keys c.len-written.result c.args.h (lists c.args.added.items) (texts c.args.strings.now) (subst IsHierarchy c.h.view_is c.h.invariant.laws)
    (c.in_ok-names.ensures ∙ ap (λ l. l ++ map glb_name (range_with_len 1 c.len-3.result) ++ texts c.args.strings.now) (ap (λ (t : TypeTable). t.names) c.h.view_is)
    ∙ ap (λ n. c.args.h.names ++ map glb_name (range_with_len 1 n) ++ texts c.args.strings.now) count)
    (ap (sets_of c.len-written.result) c.in_ok-sets.ensures ∙ sets) in
    omega (arith, enough.0, c.len-4.ensures.len, ap length c.deref-4.ensures.value)

pub invariant_of-result : goal.invariant_of-result
invariant_of-result c =
    let w : length c.h.inside.rows.items ≡ c.len-written.result = omega (arith, c.len-written.ensures, c.h.inside.rows.ok) in
    let sets = sets_same _ c.len-written.result c.args.h c.h.inside.rows.items c.in_ok-rows.rows.items c.args.added.items c.deref.result.now w (ap (λ (t : TypeTable). t.sets) c.h.view_is) c.deref.ensures.value c.in_ok-rows.ensures.sets in
    let count : c.len-3.result ≡ length (lists c.args.added.items) = omega (arith, c.len-3.ensures, c.args.added.ok, length-map c.args.added.items (λ v. v.items)) in
    let few : c.args.h.written + length c.args.added.items + length c.args.strings.now < 2 ^ 32 =
    omega (arith, c.have_numbers.ensures.0 c.if-not-have_numbers.false, w, ap (λ (t : TypeTable). t.written) c.h.view_is, c.len.ensures, c.len-2.ensures, c.h.inside.rows.ok, c.args.added.ok) in
    types_inside c.in_ok-names.names.items c.in_ok-sets.sets.keys c.len-written.result c.h.inside.string_type c.args.h (lists c.args.added.items) (texts c.args.strings.now) c.in_ok-places.places.entries c.in_ok-marks.marks.items c.in_ok-columns.columns.items
    (subst IsHierarchy c.h.view_is c.h.invariant.laws) c.requires
    (omega (arith, few, length-map c.args.added.items (λ v. v.items), length-map c.args.strings.now string_bytes))
    (subst (λ l. All (λ row. IsRow c.len-written.result row.items) l) (sym c.in_ok-sets.ensures) c.in_ok-rows.ensures.rows)
    (c.in_ok-names.ensures ∙ ap (λ l. l ++ map glb_name (range_with_len 1 c.len-3.result) ++ texts c.args.strings.now) (ap (λ (t : TypeTable). t.names) c.h.view_is)
    ∙ ap (λ n. c.args.h.names ++ map glb_name (range_with_len 1 n) ++ texts c.args.strings.now) count)
    (ap (sets_of c.len-written.result) c.in_ok-sets.ensures ∙ sets) (sym w ∙ ap (λ (t : TypeTable). t.written) c.h.view_is) (ap (λ (t : TypeTable). t.string_type) c.h.view_is)
    (subst (λ l. ArePlaces c.in_ok-places.places.entries (take (length c.in_ok-sets.sets.keys) (texts l))) c.deref-4.ensures.value
    (subst (λ n. ArePlaces c.in_ok-places.places.entries (take n (texts c.deref-4.result.now))) c.len-4.ensures.len c.in_ok-places.ensures))
    (subst (λ l. AreMarks l c.in_ok-marks.marks.items) (c.deref-2.ensures.value ∙ sym c.in_ok-sets.ensures) c.in_ok-marks.ensures)
    (subst (λ l. AreColumns c.len-written.result l c.in_ok-columns.columns.items) (c.deref-3.ensures.value ∙ sym c.in_ok-sets.ensures) c.in_ok-columns.ensures)

pub returns : goal.returns
returns c =
    let w : length c.h.inside.rows.items ≡ c.len-written.result = omega (arith, c.len-written.ensures, c.h.inside.rows.ok) in
    let sets = sets_same _ c.len-written.result c.args.h c.h.inside.rows.items c.in_ok-rows.rows.items c.args.added.items c.deref.result.now w (ap (λ (t : TypeTable). t.sets) c.h.view_is) c.deref.ensures.value c.in_ok-rows.ensures.sets in
    let count : c.len-3.result ≡ length (lists c.args.added.items) = omega (arith, c.len-3.ensures, c.args.added.ok, length-map c.args.added.items (λ v. v.items)) in
    table_is c.in_ok-names.names.items c.in_ok-sets.sets.keys c.len-written.result c.h.inside.string_type c.args.h (lists c.args.added.items) (texts c.args.strings.now)
    (c.in_ok-names.ensures ∙ ap (λ l. l ++ map glb_name (range_with_len 1 c.len-3.result) ++ texts c.args.strings.now) (ap (λ (t : TypeTable). t.names) c.h.view_is)
    ∙ ap (λ n. c.args.h.names ++ map glb_name (range_with_len 1 n) ++ texts c.args.strings.now) count)
    (ap (sets_of c.len-written.result) c.in_ok-sets.ensures ∙ sets) (sym w ∙ ap (λ (t : TypeTable). t.written) c.h.view_is) (ap (λ (t : TypeTable). t.string_type) c.h.view_is)

pub transpose-requires-clause-rows : goal.transpose-requires-clause-rows
transpose-requires-clause-rows c = subst (λ l. All (λ row. IsRow c.len-written.result row.items) l) (sym c.deref-3.ensures.value) c.in_ok-rows.ensures.rows
