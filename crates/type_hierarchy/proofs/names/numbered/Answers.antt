use Rattle.std.proofs.Common.{◌≡◌, ◌<◌, ◌≤◌, ◌∙◌, ◌++◌, sym, ap, arith, length, map}
use Rattle.std.specs.List.{list_any}
use Rattle.std.specs.Str.{bytes_eq}
use Rattle.std.specs.String.{string_bytes}
use Rattle.std.proofs.lemmas.List.{length-map, take_all, map-append, append-nil}
use Rattle.type_hierarchy.specs.Decls.{declared, decls_of, at_place, unwritten}
use Rattle.type_hierarchy.proofs.NameLemmas.{among, is_defined_at, names_push, place_is, not_false, not_true, absent_push, once_more}
use Rattle.type_hierarchy.proofs.names.numbered.Goals as goal

pub loop-decl-init : goal.loop-decl-init
loop-decl-init c = record { names = c.in_ok-names.ensures ∙ sym (append-nil _); once = λ k h d. absurd (omega arith) }

pub returns-then-not-is_new-clause-fault : goal.returns-then-not-is_new-clause-fault
returns-then-not-is_new-clause-fault c =
    let ds = decls_of c.args.decls.now in
    let i = c.loop-decl.decl-index in
    let within : i < length c.args.decls.now = omega arith in
    let within' : i < length ds = omega (arith, length-map c.args.decls.now declared) in
    let here = place_is c.args.decls.now i c.decl-item.result within c.decl-item.is in
    let name : string_bytes c.in_ok-clone.field-0 ≡ (at_place ds i).name = c.in_ok-clone.ensures.cases ∙ sym (ap (λ d. d.name) here) in
    let defined = is_defined_at ds i within' in
    let found = sym (among c.args.top.now c.args.text.now ds i _ c.loop-decl.names.keys defined c.loop-decl.invariant.names)
    ∙ ap (λ n. list_any (λ k. bytes_eq n (string_bytes k)) c.loop-decl.names.keys) (sym name)
    ∙ not_false _ (sym c.in_ok-is_new.ensures.added ∙ c.if-not-is_new.true) in
    (i, ((within', found), c.loop-decl.invariant.once), c.in_ok-clone-2.ensures.cases ∙ sym (ap (λ d. d.name) here))

pub loop-decl-preserved : goal.loop-decl-preserved
loop-decl-preserved c =
    let ds = decls_of c.args.decls.now in
    let i = c.loop-decl.decl-index in
    let within : i < length c.args.decls.now = omega arith in
    let within' : i < length ds = omega (arith, length-map c.args.decls.now declared) in
    let here = place_is c.args.decls.now i c.decl-item.result within c.decl-item.is in
    let name : string_bytes c.in_ok-clone.field-0 ≡ (at_place ds i).name = c.in_ok-clone.ensures.cases ∙ sym (ap (λ d. d.name) here) in
    let defined = is_defined_at ds i within' in
    let new = not_true _ (sym c.in_ok-is_new.ensures.added ∙ c.if-not-is_new.false) in
    record {
      names = names_push c.args.top.now c.args.text.now ds i c.loop-decl.names.keys c.insert_full.new.self.keys c.in_ok-clone.field-0 within' c.loop-decl.invariant.names
          (absent_push _ _ _ new c.in_ok-is_new.ensures.keys) name;
      once = once_more ds i c.loop-decl.invariant.once
          (sym (among c.args.top.now c.args.text.now ds i _ c.loop-decl.names.keys defined c.loop-decl.invariant.names)
          ∙ ap (λ n. list_any (λ k. bytes_eq n (string_bytes k)) c.loop-decl.names.keys) (sym name) ∙ new);
    }

pub returns : goal.returns
returns c =
    let ds = decls_of c.args.decls.now in
    let all : length ds ≤ c.loop-decl.decl-index = omega (arith, length-map c.args.decls.now declared) in
    record {
      names = c.loop-decl.invariant.names ∙ ap (λ l. map (λ d. d.name) (unwritten c.args.top.now c.args.text.now ds) ++ map (λ d. d.name) l) (take_all _ ds all)
          ∙ sym (map-append (λ d. d.name) (unwritten c.args.top.now c.args.text.now ds) ds);
      once = λ k d. c.loop-decl.invariant.once k (omega (arith, d.0)) d;
      fault = tt;
    }
