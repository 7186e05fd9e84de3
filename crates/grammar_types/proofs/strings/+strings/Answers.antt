use Rattle.std.proofs.Common.{◌≡◌, ◌<◌, ◌≤◌, ◌∙◌, length, map, sym, ap, get_or, arith}
use Rattle.std.specs.List.{flat_map}
use Rattle.std.proofs.lemmas.List.{take_all}
use Rattle.std.specs.String.{string_bytes}
use Rattle.tdl_reader.specs.Trees.{items_of}
use Rattle.tdl_reader.specs.Views.{term_of, body_in, rest_of}
use Rattle.tdl_reader.proofs.Rows.{view_of_text, view_of_avm, view_of_list, view_of_diff, view_of_tail}
use Rattle.type_hierarchy.specs.Decls.{texts}
use Rattle.grammar_files.specs.BodyStrings.{strings_of_term, strings_of_items, strings_of_rest}
use Rattle.grammar_types.specs.SettleViews.{with_each}
use Rattle.grammar_types.proofs.SettleBodies.{term_strings, attr_strings, item_strings, body_flat, attrs_flat, items_flat, no_rest, no_string}
use Rattle.grammar_types.proofs.SettleLists.{on_moved, on_two, each_step}
use Rattle.grammar_types.proofs.strings.+strings.Goals as goal

pub add_rest-returns-in-Tail : goal.add_rest-returns-in-Tail
add_rest-returns-in-Tail t c =
    on_moved _ _ _ _ _ (sym (ap (λ r. strings_of_rest (rest_of r)) c.in-Tail.is ∙ ap strings_of_rest (view_of_tail c.in-Tail.body))) c.add_body.ensures

pub add_rest-returns-in-Closed : goal.add_rest-returns-in-Closed
add_rest-returns-in-Closed t c = sym (ap (with_each (texts c.args.found.now.keys)) (no_rest c.args.rest.now c.in-Closed.is))

pub add_rest-returns-in-Closed-2 : goal.add_rest-returns-in-Closed-2
add_rest-returns-in-Closed-2 t c = sym (ap (with_each (texts c.args.found.now.keys)) (no_rest c.args.rest.now c.in-Closed.is))

pub add_term-returns-in-Text : goal.add_term-returns-in-Text
add_term-returns-in-Text t c =
    on_moved _ _ _ _ _ (sym (ap (λ r. strings_of_term (term_of r)) c.in-Text.is ∙ ap strings_of_term (view_of_text c.in-Text.text c.in-Text.at))) c.note.ensures

pub add_term-returns-in-Avm : goal.add_term-returns-in-Avm
add_term-returns-in-Avm t c =
    on_moved _ _ _ _ _ (sym (ap (λ r. strings_of_term (term_of r)) c.in-Avm.is ∙ ap strings_of_term (view_of_avm c.in-Avm.attrs c.in-Avm.at))) c.add_attrs.ensures

pub add_term-returns-in_ok-add_items-in-List : goal.add_term-returns-in_ok-add_items-in-List
add_term-returns-in_ok-add_items-in-List t c =
    on_two _ _ _ _ (strings_of_items (items_of (map body_in c.in-List.items.items))) (strings_of_rest (rest_of c.in-List.rest)) _ c.in_ok-add_items-in-List.ensures
    (sym (ap (λ r. strings_of_term (term_of r)) c.in-List.is ∙ ap strings_of_term (view_of_list c.in-List.items c.in-List.rest c.in-List.at))) c.add_rest.ensures

pub add_term-returns-in-Diff : goal.add_term-returns-in-Diff
add_term-returns-in-Diff t c =
    on_moved _ _ _ _ _ (sym (ap (λ r. strings_of_term (term_of r)) c.in-Diff.is ∙ ap strings_of_term (view_of_diff c.in-Diff.items c.in-Diff.at))) c.add_items-in-Diff.ensures

pub add_term-returns-in-Name : goal.add_term-returns-in-Name
add_term-returns-in-Name t c = sym (ap (with_each (texts c.args.found.now.keys)) (no_string c.args.term.now c.in-Name.is))

pub add_term-returns-in-Name-2 : goal.add_term-returns-in-Name-2
add_term-returns-in-Name-2 t c = sym (ap (with_each (texts c.args.found.now.keys)) (no_string c.args.term.now c.in-Name.is))

pub add_attrs-loop-attr-preserved : goal.add_attrs-loop-attr-preserved
add_attrs-loop-attr-preserved t c =
    let within : c.loop-attr.attr-index < length c.args.attrs.now.items = omega (arith, c.loop-attr-test.true, c.deref-attr-items.ensures.len, c.args.attrs.now.ok) in
    each_step attr_strings _ _ _ c.args.attrs.now.items c.loop-attr.attr-index c.attr-item.result within
    (c.attr-item.is ∙ ap (λ l. get_or l c.loop-attr.attr-index c.attr-item.result) c.deref-attr-items.ensures.value) c.in_ok-add_body.ensures c.loop-attr.invariant

pub add_attrs-returns : goal.add_attrs-returns
add_attrs-returns t c =
    let past : length c.args.attrs.now.items ≤ c.loop-attr.attr-index = omega (arith, c.loop-attr-test.false, c.deref-attr-items.ensures.len, c.args.attrs.now.ok) in
    c.loop-attr.invariant ∙ ap (λ l. with_each (texts c.args.found.now.keys) (flat_map attr_strings l)) (take_all c.loop-attr.attr-index c.args.attrs.now.items past)
    ∙ ap (with_each (texts c.args.found.now.keys)) (attrs_flat c.args.attrs.now.items)

pub add_body-loop-term-preserved : goal.add_body-loop-term-preserved
add_body-loop-term-preserved t c =
    let within : c.loop-term.term-index < length c.args.body.now.terms.items = omega (arith, c.loop-term-test.true, c.deref-term-items.ensures.len, c.args.body.now.terms.ok) in
    each_step term_strings _ _ _ c.args.body.now.terms.items c.loop-term.term-index c.term-item.result within
    (c.term-item.is ∙ ap (λ l. get_or l c.loop-term.term-index c.term-item.result) c.deref-term-items.ensures.value) c.in_ok-add_term.ensures c.loop-term.invariant

pub add_body-returns : goal.add_body-returns
add_body-returns t c =
    let past : length c.args.body.now.terms.items ≤ c.loop-term.term-index = omega (arith, c.loop-term-test.false, c.deref-term-items.ensures.len, c.args.body.now.terms.ok) in
    c.loop-term.invariant ∙ ap (λ l. with_each (texts c.args.found.now.keys) (flat_map term_strings l)) (take_all c.loop-term.term-index c.args.body.now.terms.items past)
    ∙ ap (with_each (texts c.args.found.now.keys)) (body_flat c.args.body.now.terms.items)

pub add_items-loop-item-preserved : goal.add_items-loop-item-preserved
add_items-loop-item-preserved t c =
    let within : c.loop-item.item-index < length c.args.items.now.items = omega (arith, c.loop-item-test.true, c.deref-item-items.ensures.len, c.args.items.now.ok) in
    each_step item_strings _ _ _ c.args.items.now.items c.loop-item.item-index c.item-item.result within
    (c.item-item.is ∙ ap (λ l. get_or l c.loop-item.item-index c.item-item.result) c.deref-item-items.ensures.value) c.in_ok-add_body.ensures c.loop-item.invariant

pub add_items-returns : goal.add_items-returns
add_items-returns t c =
    let past : length c.args.items.now.items ≤ c.loop-item.item-index = omega (arith, c.loop-item-test.false, c.deref-item-items.ensures.len, c.args.items.now.ok) in
    c.loop-item.invariant ∙ ap (λ l. with_each (texts c.args.found.now.keys) (flat_map item_strings l)) (take_all c.loop-item.item-index c.args.items.now.items past)
    ∙ ap (with_each (texts c.args.found.now.keys)) (items_flat c.args.items.now.items)
