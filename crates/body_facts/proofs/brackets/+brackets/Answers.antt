use Rattle.std.proofs.Common.{◌<◌, ◌≤◌, ◌∙◌, ◌&&◌, ◌++◌, ◌∷◌, [], false, length, map, sym, ap, get_or, arith, refl}
use Rattle.std.specs.List.{flat_map}
use Rattle.std.proofs.lemmas.List.{take_all}
use Rattle.std.specs.String.{string_bytes}
use Rattle.tdl_reader.specs.Trees.{items_of}
use Rattle.tdl_reader.specs.Views.{term_of, body_in, rest_of, attr_of}
use Rattle.tdl_reader.proofs.Rows.{view_of_avm, view_of_list, view_of_diff, view_of_tail}
use Rattle.body_facts.specs.Writing.{list_names}
use Rattle.body_facts.specs.BracketUses.{used_of, used, is_empty_path, path_uses, cell_uses, term_uses, body_uses, attrs_use, items_use, end_uses}
use Rattle.body_facts.proofs.Appended.{on_same, on_then, push_step}
use Rattle.body_facts.proofs.BracketLemmas.{no_end, no_bracket, added_none, added_two, attr_uses}
use Rattle.body_facts.proofs.Parts.{body_flat, attrs_flat, items_flat}
use Rattle.body_facts.proofs.brackets.+brackets.Goals as goal

pub add_end-returns-in-Tail : goal.add_end-returns-in-Tail
add_end-returns-in-Tail t c =
    let n = list_names c.args.names.now in
    on_same _ _ _ _ _ (sym (ap (λ r. end_uses n c.args.own (rest_of r)) c.in-Tail.is ∙ ap (end_uses n c.args.own) (view_of_tail c.in-Tail.body))) c.add_body.ensures

pub add_end-returns-in-Closed : goal.add_end-returns-in-Closed
add_end-returns-in-Closed t c = added_none _ _ (no_end (list_names c.args.names.now) c.args.own c.args.rest.now c.in-Closed.is)

pub add_end-returns-in-Closed-2 : goal.add_end-returns-in-Closed-2
add_end-returns-in-Closed-2 t c = added_none _ _ (no_end (list_names c.args.names.now) c.args.own c.args.rest.now c.in-Closed.is)

pub add_term-returns-in-Avm : goal.add_term-returns-in-Avm
add_term-returns-in-Avm t c =
    let n = list_names c.args.names.now in
    on_same _ _ _ _ _ (sym (ap (λ r. term_uses n c.args.own (term_of r)) c.in-Avm.is ∙ ap (term_uses n c.args.own) (view_of_avm c.in-Avm.attrs c.in-Avm.at))) c.add_attrs.ensures

pub add_term-returns-in_ok-add_items-in-List : goal.add_term-returns-in_ok-add_items-in-List
add_term-returns-in_ok-add_items-in-List t c =
    let n = list_names c.args.names.now in
    let items = items_of (map body_in c.in-List.items.items) in
    let rest = rest_of c.in-List.rest in
    on_then _ _ _ _ (cell_uses n c.in-List.at c.args.own items ++ items_use n items) (end_uses n c.own_tail.result rest) _
    (added_two _ _ _ _ _ c.in_ok-add_cell-in-List.ensures c.in_ok-add_items-in-List.ensures)
    (ap (λ b. (cell_uses n c.in-List.at c.args.own items ++ items_use n items) ++ end_uses n b rest) c.own_tail.ensures
    ∙ sym (ap (λ r. term_uses n c.args.own (term_of r)) c.in-List.is ∙ ap (term_uses n c.args.own) (view_of_list c.in-List.items c.in-List.rest c.in-List.at)))
    c.add_end.ensures

pub add_term-returns-in_ok-add_cell-in-Diff : goal.add_term-returns-in_ok-add_cell-in-Diff
add_term-returns-in_ok-add_cell-in-Diff t c =
    let n = list_names c.args.names.now in
    let items = items_of (map body_in c.in-Diff.items.items) in
    on_then _ _ _ _ ((used c.in-Diff.at c.args.own n.diff_list ∷ used c.in-Diff.at c.args.own n.diff_last ∷ []) ++ cell_uses n c.in-Diff.at false items) (items_use n items) _
    (added_two _ _ _ _ _ c.in_ok-add_ends-in-Diff.ensures c.in_ok-add_cell-in-Diff.ensures)
    (sym (ap (λ r. term_uses n c.args.own (term_of r)) c.in-Diff.is ∙ ap (term_uses n c.args.own) (view_of_diff c.in-Diff.items c.in-Diff.at)))
    c.add_items-in-Diff.ensures

pub add_term-returns-in-Name : goal.add_term-returns-in-Name
add_term-returns-in-Name t c = added_none _ _ (no_bracket (list_names c.args.names.now) c.args.own c.args.term.now c.in-Name.is)

pub add_term-returns-in-Name-2 : goal.add_term-returns-in-Name-2
add_term-returns-in-Name-2 t c = added_none _ _ (no_bracket (list_names c.args.names.now) c.args.own c.args.term.now c.in-Name.is)

pub add_term-returns-in-Name-3 : goal.add_term-returns-in-Name-3
add_term-returns-in-Name-3 t c = added_none _ _ (no_bracket (list_names c.args.names.now) c.args.own c.args.term.now c.in-Name.is)

pub add_attrs-loop-attr-preserved : goal.add_attrs-loop-attr-preserved
add_attrs-loop-attr-preserved t c =
    let n = list_names c.args.names.now in
    let a = attr_of c.attr-item.result in
    let old = map used_of c.loop-attr.found.items in
    let mid = map used_of c.add_path.new.found.items in
    let within : c.loop-attr.attr-index < length c.args.attrs.now.items = omega (arith, c.loop-attr-test.true, c.deref-attr-items.ensures.len, c.args.attrs.now.ok) in
    push_step (attr_uses n c.args.own c.args.at) old (map used_of c.add_body.new.found.items) (map used_of c.args.found.now.items) c.args.attrs.now.items c.loop-attr.attr-index c.attr-item.result within
    (c.attr-item.is ∙ ap (λ l. get_or l c.loop-attr.attr-index c.attr-item.result) c.deref-attr-items.ensures.value)
    (added_two (map used_of c.add_body.new.found.items) mid old (path_uses c.args.at c.args.own a.path) (body_uses n (c.args.own && is_empty_path a.path) a.body)
    (c.in_ok-add_path.ensures ∙ ap (λ l. old ++ path_uses c.args.at c.args.own (map string_bytes l)) c.deref.ensures.value)
    (c.in_ok-add_body.ensures ∙ ap (λ b. mid ++ body_uses n b a.body) (c.own_value.ensures ∙ ap (λ l. c.args.own && is_empty_path (map string_bytes l)) c.deref-in-loop-attr.ensures.value))) c.loop-attr.invariant

pub add_attrs-returns : goal.add_attrs-returns
add_attrs-returns t c =
    let n = list_names c.args.names.now in
    let past : length c.args.attrs.now.items ≤ c.loop-attr.attr-index = omega (arith, c.loop-attr-test.false, c.deref-attr-items.ensures.len, c.args.attrs.now.ok) in
    c.loop-attr.invariant ∙ ap (λ l. map used_of c.args.found.now.items ++ flat_map (attr_uses n c.args.own c.args.at) l) (take_all c.loop-attr.attr-index c.args.attrs.now.items past)
    ∙ ap (λ l. map used_of c.args.found.now.items ++ l) (attrs_flat (attr_uses n c.args.own c.args.at) (attrs_use n c.args.own c.args.at) refl (λ a m. refl) c.args.attrs.now.items)

pub add_body-loop-term-preserved : goal.add_body-loop-term-preserved
add_body-loop-term-preserved t c =
    let within : c.loop-term.term-index < length c.args.body.now.terms.items = omega (arith, c.loop-term-test.true, c.deref-term-items.ensures.len, c.args.body.now.terms.ok) in
    push_step (λ x. term_uses (list_names c.args.names.now) c.args.own (term_of x)) _ _ _ c.args.body.now.terms.items c.loop-term.term-index c.term-item.result within
    (c.term-item.is ∙ ap (λ l. get_or l c.loop-term.term-index c.term-item.result) c.deref-term-items.ensures.value) c.in_ok-add_term.ensures c.loop-term.invariant

pub add_body-returns : goal.add_body-returns
add_body-returns t c =
    let n = list_names c.args.names.now in
    let past : length c.args.body.now.terms.items ≤ c.loop-term.term-index = omega (arith, c.loop-term-test.false, c.deref-term-items.ensures.len, c.args.body.now.terms.ok) in
    c.loop-term.invariant ∙ ap (λ l. map used_of c.args.found.now.items ++ flat_map (λ x. term_uses n c.args.own (term_of x)) l) (take_all c.loop-term.term-index c.args.body.now.terms.items past)
    ∙ ap (λ l. map used_of c.args.found.now.items ++ l) (body_flat (term_uses n c.args.own) (body_uses n c.args.own) refl (λ x b. refl) c.args.body.now.terms.items)

pub add_items-loop-item-preserved : goal.add_items-loop-item-preserved
add_items-loop-item-preserved t c =
    let within : c.loop-item.item-index < length c.args.items.now.items = omega (arith, c.loop-item-test.true, c.deref-item-items.ensures.len, c.args.items.now.ok) in
    push_step (λ b. body_uses (list_names c.args.names.now) false (body_in b)) _ _ _ c.args.items.now.items c.loop-item.item-index c.item-item.result within
    (c.item-item.is ∙ ap (λ l. get_or l c.loop-item.item-index c.item-item.result) c.deref-item-items.ensures.value) c.in_ok-add_body.ensures c.loop-item.invariant

pub add_items-returns : goal.add_items-returns
add_items-returns t c =
    let n = list_names c.args.names.now in
    let past : length c.args.items.now.items ≤ c.loop-item.item-index = omega (arith, c.loop-item-test.false, c.deref-item-items.ensures.len, c.args.items.now.ok) in
    c.loop-item.invariant ∙ ap (λ l. map used_of c.args.found.now.items ++ flat_map (λ b. body_uses n false (body_in b)) l) (take_all c.loop-item.item-index c.args.items.now.items past)
    ∙ ap (λ l. map used_of c.args.found.now.items ++ l) (items_flat (body_uses n false) (items_use n) refl (λ b m. refl) c.args.items.now.items)
