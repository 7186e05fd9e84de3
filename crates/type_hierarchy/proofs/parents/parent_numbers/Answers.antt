use Rattle.std.proofs.Common.{◌≡◌, ◌<◌, ◌∙◌, sym, ap, arith, length, [], slice_index_or}
use Rattle.std.specs.Prelude.{position}
use Rattle.std.specs.Str.{bytes_eq}
use Rattle.std.specs.String.{string_bytes}
use Rattle.std.proofs.lemmas.List.{length-map, get_or-map}
use Rattle.type_hierarchy.specs.Decls.{declared, texts}
use Rattle.type_hierarchy.specs.Inner.Parents.{parent_at, is_known}
use Rattle.type_hierarchy.proofs.ParentLemmas.{known_push, found_known, missing_unknown, numbers_push}
use Rattle.type_hierarchy.proofs.parents.parent_numbers.Goals as goal

pub loop-parent-preserved : goal.loop-parent-preserved
loop-parent-preserved c =
    let ns = texts c.args.names.now.keys in
    let d = declared c.args.decl.now in
    let i = c.loop-parent.parent-index in
    let within : i < length c.args.decl.now.parents.items = omega (arith, c.loop-parent-test.true, c.deref-parent-items.ensures.len, c.args.decl.now.parents.ok) in
    let here : parent_at d i ≡ string_bytes c.parent-item.result = get_or-map string_bytes c.args.decl.now.parents.items i c.parent-item.result [] within ∙ ap string_bytes (ap (λ l. slice_index_or l i c.parent-item.result) (sym c.deref-parent-items.ensures.value) ∙ sym c.parent-item.is) in
    let found : position (bytes_eq (string_bytes c.parent-item.result)) ns ≡ _ = ap (λ p. position (bytes_eq p) ns) (sym c.as_str-in-loop-parent.ensures.value) ∙ sym c.number.ensures ∙ c.in-Some.is in
    record {
      numbers = numbers_push ns d i c.in-Some.place (string_bytes c.parent-item.result) c.if-is_empty.numbers.items c.loop-parent.numbers.items _
          (omega (arith, within, length-map c.args.decl.now.parents.items string_bytes)) here found c.loop-parent.invariant.numbers c.in_ok-push-in-Some.ensures.items;
      known = known_push ns d i (string_bytes c.parent-item.result) here (found_known ns _ c.in-Some.place found) c.loop-parent.invariant.known;
    }

pub returns-in-None-clause-unknown : goal.returns-in-None-clause-unknown
returns-in-None-clause-unknown c =
    let ns = texts c.args.names.now.keys in
    let d = declared c.args.decl.now in
    let i = c.loop-parent.parent-index in
    let within : i < length c.args.decl.now.parents.items = omega (arith, c.loop-parent-test.true, c.deref-parent-items.ensures.len, c.args.decl.now.parents.ok) in
    let here : parent_at d i ≡ string_bytes c.parent-item.result = get_or-map string_bytes c.args.decl.now.parents.items i c.parent-item.result [] within ∙ ap string_bytes (ap (λ l. slice_index_or l i c.parent-item.result) (sym c.deref-parent-items.ensures.value) ∙ sym c.parent-item.is) in
    record {
      place = i;
      within = omega (arith, within, length-map c.args.decl.now.parents.items string_bytes);
      is_unknown = ap (is_known ns) here ∙ missing_unknown ns (string_bytes c.parent-item.result)
          (ap (λ p. position (bytes_eq p) ns) (sym c.as_str-in-loop-parent.ensures.value) ∙ sym c.number.ensures ∙ c.in-None.is);
      known_before = c.loop-parent.invariant.known;
      name_is = c.in_ok-clone-in-None.ensures.cases;
      parent_is = c.in_ok-clone-in-None-2.ensures.cases ∙ sym here;
    }
