use Rattle.std.proofs.Common.{◌<◌, ◌∙◌, ◌-◌, All, length, arith, ap, sym, subst, min}
use Rattle.std.proofs.lemmas.List.{length-map}
use Rattle.type_hierarchy.specs.Decls.{declared, decls_of, texts, number_of}
use Rattle.type_hierarchy.specs.declared.decl.Decl.{Decl}
use Rattle.std.specs.String.{string_bytes}
use Rattle.type_hierarchy.specs.Inner.Reach.{lists}
use Rattle.type_hierarchy.specs.Inner.Rows.{HoldOrder}
use Rattle.type_hierarchy.proofs.NameLemmas.{place_is}
use Rattle.type_hierarchy.proofs.DeclLemmas.{built_inside, built_is, range_of, unwritten_count, no_cycle_of, first_cycle_of, types_count, number_near}
use Rattle.type_hierarchy.proofs.hierarchy.Hierarchy.build.Goals as goal

pub first_cycle-requires : goal.first_cycle-requires
first_cycle-requires c =
    subst (λ ps. All (λ row. All (λ x. x < length ps) row.items) ps) (sym c.deref.ensures.value)
    (range_of c.args.top.now c.args.text.now (decls_of c.args.decls.now) c.in_ok-parents.parents.items c.in_ok-parents.ensures.parents)

pub bounds-decls-t : goal.bounds-decls-t
bounds-decls-t c =
    let u_is = unwritten_count c.args.top.now c.args.text.now c.args.decls.now c.in_ok-names.names.keys c.len.result c.in_ok-names.ensures.names c.len.ensures.len in
    let f = first_cycle_of c.args.top.now c.args.text.now (decls_of c.args.decls.now) _ _ c.in-Some.t _ (ap lists c.deref.ensures.value ∙ c.in_ok-parents.ensures.parents) u_is c.in-Some.is c.in_ok-t.ensures in
    omega (arith, f.0, length-map c.args.decls.now declared)

pub returns-in-Some-clause-fault : goal.returns-in-Some-clause-fault
returns-in-Some-clause-fault c =
    let u_is = unwritten_count c.args.top.now c.args.text.now c.args.decls.now c.in_ok-names.names.keys c.len.result c.in_ok-names.ensures.names c.len.ensures.len in
    let f = first_cycle_of c.args.top.now c.args.text.now (decls_of c.args.decls.now) _ _ c.in-Some.t _ (ap lists c.deref.ensures.value ∙ c.in_ok-parents.ensures.parents) u_is c.in-Some.is c.in_ok-t.ensures in
    let within : c.in-Some.t - (c.len.result - length c.args.decls.now) < length c.args.decls.now = omega (arith, f.0, length-map c.args.decls.now declared) in
    let place = place_is c.args.decls.now _ c.index-decls-t.result within c.index-decls-t.is in (
      c.in_ok-names.ensures.once,
      c.in_ok-parents.ensures.known,
      (c.in-Some.t - (c.len.result - length c.args.decls.now), f.1, c.in_ok-clone.ensures.cases ∙ ap (λ (d : Decl). string_bytes d.name) (sym c.index-decls-t.is) ∙ sym (ap (λ d. d.name) place)),
    )

pub returns-in-Some-first_reserved-clause-fault : goal.returns-in-Some-first_reserved-clause-fault
returns-in-Some-first_reserved-clause-fault c =
    let u_is = unwritten_count c.args.top.now c.args.text.now c.args.decls.now c.in_ok-names.names.keys c.len.result c.in_ok-names.ensures.names c.len.ensures.len in
    let no_cycle = no_cycle_of c.args.top.now c.args.text.now (decls_of c.args.decls.now) _ _ _ (ap lists c.deref.ensures.value ∙ c.in_ok-parents.ensures.parents) u_is c.in_default.is c.in_ok-t.ensures in
    let first = c.in-Some-first_reserved.ensures in
    let within : c.in-Some-first_reserved.i < length c.args.decls.now = omega (arith, first.0.0, length-map c.args.decls.now declared) in
    let place = place_is c.args.decls.now c.in-Some-first_reserved.i c.index-decls-i.result within c.index-decls-i.is in (
      c.in_ok-names.ensures.once,
      c.in_ok-parents.ensures.known,
      no_cycle,
      (c.in-Some-first_reserved.i, first, c.in_ok-clone-2.ensures.cases ∙ ap (λ (d : Decl). string_bytes d.name) (sym c.index-decls-i.is) ∙ sym (ap (λ d. d.name) place)),
    )

pub returns-then-decls-gt-MOST_TYPES-clause-fault : goal.returns-then-decls-gt-MOST_TYPES-clause-fault
returns-then-decls-gt-MOST_TYPES-clause-fault c =
    let u_is = unwritten_count c.args.top.now c.args.text.now c.args.decls.now c.in_ok-names.names.keys c.len.result c.in_ok-names.ensures.names c.len.ensures.len in
    let no_cycle = no_cycle_of c.args.top.now c.args.text.now (decls_of c.args.decls.now) _ _ _ (ap lists c.deref.ensures.value ∙ c.in_ok-parents.ensures.parents) u_is c.in_default.is c.in_ok-t.ensures in (
      c.in_ok-names.ensures.once,
      c.in_ok-parents.ensures.known,
      no_cycle,
      c.in_default-first_reserved.ensures,
      omega (arith, c.if-decls-gt-MOST_TYPES.true, length-map c.args.decls.now declared),
      c.min.ensures ∙ ap (λ n. min n 4294967295) (sym (length-map c.args.decls.now declared)),
    )

pub rows_of-requires-clause-range : goal.rows_of-requires-clause-range
rows_of-requires-clause-range c =
    subst (λ ps. All (λ row. All (λ x. x < length ps) row.items) ps) (sym c.deref-2.ensures.value)
    (range_of c.args.top.now c.args.text.now (decls_of c.args.decls.now) c.in_ok-parents.parents.items c.in_ok-parents.ensures.parents)

pub rows_of-requires-clause-few : goal.rows_of-requires-clause-few
rows_of-requires-clause-few c =
    let n = types_count c.args.top.now c.args.text.now c.args.decls.now c.in_ok-parents.parents.items c.in_ok-parents.ensures.parents in
    omega (arith, n, ap length c.deref-2.ensures.value, c.if-decls-gt-MOST_TYPES.false)

pub overflow_cast-string_type : goal.overflow_cast-string_type
overflow_cast-string_type c =
    let n = types_count c.args.top.now c.args.text.now c.args.decls.now c.in_ok-parents.parents.items c.in_ok-parents.ensures.parents in
    let m = number_near c.args.top.now c.args.text.now c.args.decls.now (texts c.in_ok-names.names.keys) c.args.text.now c.in_ok-names.ensures.names in
    record { fits = omega (arith, n, m, c.number_of-string_type.ensures, c.if-decls-gt-MOST_TYPES.false) }

pub returns-clause-hierarchy : goal.returns-clause-hierarchy
returns-clause-hierarchy c =
    let ds = decls_of c.args.decls.now in
    let ps = ap lists c.deref-2.ensures.value ∙ c.in_ok-parents.ensures.parents in
    built_is c.args.top.now c.args.text.now ds _ c.in_ok-rows.rows.items _ (ap texts c.in_ok-list_of.ensures ∙ c.in_ok-names.ensures.names)
    (c.in_ok-rows.ensures.one_each ∙ sym (length-map c.deref-2.result.now (λ v. v.items)) ∙ ap length ps) (subst (λ p. HoldOrder p (lists c.in_ok-rows.rows.items)) ps c.in_ok-rows.ensures.order) (c.number_of-string_type.ensures ∙ ap (λ ks. number_of (texts ks) c.args.text.now) (sym c.in_ok-list_of.ensures))

pub invariant_of-result : goal.invariant_of-result
invariant_of-result c =
    let ds = decls_of c.args.decls.now in
    let ps = ap lists c.deref-2.ensures.value ∙ c.in_ok-parents.ensures.parents in
    let u_is = unwritten_count c.args.top.now c.args.text.now c.args.decls.now c.in_ok-names.names.keys c.len.result c.in_ok-names.ensures.names c.len.ensures.len in
    let no_cycle = no_cycle_of c.args.top.now c.args.text.now ds _ _ _ (ap lists c.deref.ensures.value ∙ c.in_ok-parents.ensures.parents) u_is c.in_default.is c.in_ok-t.ensures in
    built_inside c.args.top.now c.args.text.now ds _ c.in_ok-rows.rows.items _ c.requires.apart no_cycle c.in_default-first_reserved.ensures (ap texts c.in_ok-list_of.ensures ∙ c.in_ok-names.ensures.names)
    (c.in_ok-rows.ensures.one_each ∙ sym (length-map c.deref-2.result.now (λ v. v.items)) ∙ ap length ps) (subst (λ p. HoldOrder p (lists c.in_ok-rows.rows.items)) ps c.in_ok-rows.ensures.order)
    c.in_ok-rows.ensures.rows (omega (arith, c.if-decls-gt-MOST_TYPES.false, length-map c.args.decls.now declared)) (c.number_of-string_type.ensures ∙ ap (λ ks. number_of (texts ks) c.args.text.now) (sym c.in_ok-list_of.ensures))

pub returns-clause-faultless : goal.returns-clause-faultless
returns-clause-faultless c =
    let u_is = unwritten_count c.args.top.now c.args.text.now c.args.decls.now c.in_ok-names.names.keys c.len.result c.in_ok-names.ensures.names c.len.ensures.len in
    record {
      no_duplicate = c.in_ok-names.ensures.once;
      no_unknown = c.in_ok-parents.ensures.known;
      no_cycle = no_cycle_of c.args.top.now c.args.text.now (decls_of c.args.decls.now) _ _ _ (ap lists c.deref.ensures.value ∙ c.in_ok-parents.ensures.parents) u_is c.in_default.is c.in_ok-t.ensures;
      no_reserved = c.in_default-first_reserved.ensures;
      few = omega (arith, c.if-decls-gt-MOST_TYPES.false, length-map c.args.decls.now declared);
    }
