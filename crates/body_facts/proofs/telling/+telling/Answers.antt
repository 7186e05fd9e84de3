use Rattle.std.proofs.Common.{◌<◌, ◌≤◌, ◌∙◌, ◌++◌, length, map, take, sym, ap, get_or, arith, refl}
use Rattle.std.specs.List.{flat_map}
use Rattle.std.proofs.lemmas.List.{take_all}
use Rattle.type_hierarchy.specs.Decls.{texts, number_of}
use Rattle.fs_model.specs.Claims.{below}
use Rattle.fs_graph.specs.Facts.{path_of}
use Rattle.tdl_reader.specs.Trees.{items_of, more_items, no_items}
use Rattle.tdl_reader.specs.Views.{term_of, body_in, rest_of}
use Rattle.tdl_reader.proofs.Rows.{view_of_name, view_of_text, view_of_coref, view_of_avm, view_of_list, view_of_diff, view_of_closed, view_of_open, view_of_tail}
use Rattle.body_facts.specs.Numbers.{type_number, text_number}
use Rattle.body_facts.specs.Running.{running_of, moved, claimed, carried, told_all, term_told, items_told, end_told}
use Rattle.body_facts.specs.Sayings.{term_says, body_says, attrs_say}
use Rattle.body_facts.specs.WordTables.{table_of}
use Rattle.body_facts.proofs.Parts.{body_flat, attrs_flat}
use Rattle.body_facts.proofs.PartLemmas.{on_to, attr_done, item_done, item_past, list_done, items_back, items_end, difference_done}
use Rattle.body_facts.proofs.RunningLemmas.{attr_says, each_told, attr_step, still, depth_is, items_step, items_next}
use Rattle.body_facts.proofs.telling.+telling.Goals as goal

pub add_attr-returns : goal.add_attr-returns
add_attr-returns t c =
    let w = table_of c.args.words.now in
    let s = running_of c.args.told.now in
    attr_done w s (running_of c.enter_all.new.self) (running_of c.add_existence.new.self) (running_of c.add_body.new.told) (running_of c.back_to.new.self)
    (texts c.args.attr.now.path.items) (body_in c.args.attr.now.body) c.len-depth.result (depth_is c.args.told.now.path c.len-depth.result c.len-depth.ensures)
    (c.in_ok-enter_all.ensures ∙ ap (λ l. moved (s.path ++ map (number_of w.feats) (texts l)) s) c.deref.ensures.value)
    c.in_ok-add_existence.ensures c.in_ok-add_body.ensures c.back_to.ensures

pub add_attrs-loop-attr-preserved : goal.add_attrs-loop-attr-preserved
add_attrs-loop-attr-preserved t c =
    let w = table_of c.args.words.now in
    let s = running_of c.args.told.now in
    let r = running_of c.loop-attr.told in
    let within : c.loop-attr.attr-index < length c.args.attrs.now.items = omega (arith, c.loop-attr-test.true, c.deref-attr-items.ensures.len, c.args.attrs.now.ok) in
    each_told w.types (attr_says (number_of w.feats) w.names s.path) r (running_of c.add_attr.new.told) s c.args.attrs.now.items c.loop-attr.attr-index c.attr-item.result within
    (c.attr-item.is ∙ ap (λ l. get_or l c.loop-attr.attr-index c.attr-item.result) c.deref-attr-items.ensures.value)
    (attr_step w r (running_of c.add_attr.new.told) s.path c.attr-item.result (still w.types s r (flat_map (attr_says (number_of w.feats) w.names s.path) (take c.loop-attr.attr-index c.args.attrs.now.items)) c.loop-attr.invariant) c.in_ok-add_attr.ensures) c.loop-attr.invariant

pub add_attrs-returns : goal.add_attrs-returns
add_attrs-returns t c =
    let w = table_of c.args.words.now in
    let s = running_of c.args.told.now in
    let past : length c.args.attrs.now.items ≤ c.loop-attr.attr-index = omega (arith, c.loop-attr-test.false, c.deref-attr-items.ensures.len, c.args.attrs.now.ok) in
    c.loop-attr.invariant ∙ ap (λ l. told_all w.types s (flat_map (attr_says (number_of w.feats) w.names s.path) l)) (take_all c.loop-attr.attr-index c.args.attrs.now.items past)
    ∙ ap (told_all w.types s) (attrs_flat (attr_says (number_of w.feats) w.names s.path) (attrs_say (number_of w.feats) w.names s.path) refl (λ a m. refl) c.args.attrs.now.items)

pub add_body-loop-term-preserved : goal.add_body-loop-term-preserved
add_body-loop-term-preserved t c =
    let w = table_of c.args.words.now in
    let s = running_of c.args.told.now in
    let r = running_of c.loop-term.told in
    let within : c.loop-term.term-index < length c.args.body.now.terms.items = omega (arith, c.loop-term-test.true, c.deref-term-items.ensures.len, c.args.body.now.terms.ok) in
    each_told w.types (λ x. term_says (number_of w.feats) w.names s.path (term_of x)) r (running_of c.add_term.new.told) s c.args.body.now.terms.items c.loop-term.term-index c.term-item.result within
    (c.term-item.is ∙ ap (λ l. get_or l c.loop-term.term-index c.term-item.result) c.deref-term-items.ensures.value)
    (c.in_ok-add_term.ensures ∙ ap (λ p. told_all w.types r (term_says (number_of w.feats) w.names p (term_of c.term-item.result))) (still w.types s r (flat_map (λ x. term_says (number_of w.feats) w.names s.path (term_of x)) (take c.loop-term.term-index c.args.body.now.terms.items)) c.loop-term.invariant)) c.loop-term.invariant

pub add_body-returns : goal.add_body-returns
add_body-returns t c =
    let w = table_of c.args.words.now in
    let s = running_of c.args.told.now in
    let past : length c.args.body.now.terms.items ≤ c.loop-term.term-index = omega (arith, c.loop-term-test.false, c.deref-term-items.ensures.len, c.args.body.now.terms.ok) in
    c.loop-term.invariant ∙ ap (λ l. told_all w.types s (flat_map (λ x. term_says (number_of w.feats) w.names s.path (term_of x)) l)) (take_all c.loop-term.term-index c.args.body.now.terms.items past)
    ∙ ap (told_all w.types s) (body_flat (term_says (number_of w.feats) w.names s.path) (body_says (number_of w.feats) w.names s.path) refl (λ x b. refl) c.args.body.now.terms.items)

pub add_difference-returns : goal.add_difference-returns
add_difference-returns t c =
    let w = table_of c.args.words.now in
    let s = running_of c.args.told.now in
    let items = items_of (map body_in c.args.items.now.items) in
    let s1 = running_of c.enter.new.self in
    let s2 = running_of c.add_items.new.told in
    let s3 = running_of c.back_to.new.self in
    let depth = depth_is c.args.told.now.path c.len-depth.result c.len-depth.ensures in
    let list = c.feature.ensures ∙ ap (number_of w.feats) c.deref.ensures in
    difference_done w s s3 (running_of c.enter-2.new.self) (running_of c.add_equality.new.self) (running_of c.back_to-2.new.self) items (path_of c.in_ok-end.end.items) c.len-depth.result c.feature-2.result.0
    depth (c.feature-2.ensures ∙ ap (number_of w.feats) c.deref-2.ensures)
    (items_back w s s1 s2 s3 items c.len-depth.result c.feature.result.0 depth list c.in_ok-enter.ensures c.in_ok-add_items.ensures c.back_to.ensures)
    (ap path_of c.in_ok-end.ensures ∙ items_end w s s1 s2 items c.feature.result.0 list c.in_ok-enter.ensures c.in_ok-add_items.ensures)
    c.in_ok-enter-2.ensures c.in_ok-add_equality.ensures c.back_to-2.ensures

pub add_end-returns-in-Closed : goal.add_end-returns-in-Closed
add_end-returns-in-Closed t c =
    let w = table_of c.args.words.now in
    let s = running_of c.args.told.now in
    on_to _ _ _ _
    (ap (λ k. claimed (below s.path k) s) (c.type_of.ensures ∙ ap (type_number w.types) c.deref.ensures)
    ∙ sym (ap (λ r. end_told w s (rest_of r)) c.in-Closed.is ∙ ap (end_told w s) view_of_closed))
    c.add_type.ensures

pub add_end-returns-in-Open : goal.add_end-returns-in-Open
add_end-returns-in-Open t c =
    let w = table_of c.args.words.now in
    let s = running_of c.args.told.now in
    on_to _ _ _ _
    (ap (λ k. claimed (below s.path k) s) (c.type_of-in-Open.ensures ∙ ap (type_number w.types) c.deref-in-Open.ensures)
    ∙ sym (ap (λ r. end_told w s (rest_of r)) c.in-Open.is ∙ ap (end_told w s) view_of_open))
    c.add_type-in-Open.ensures

pub add_end-returns-in-Tail : goal.add_end-returns-in-Tail
add_end-returns-in-Tail t c =
    let w = table_of c.args.words.now in
    let s = running_of c.args.told.now in
    on_to _ _ _ _ (sym (ap (λ r. end_told w s (rest_of r)) c.in-Tail.is ∙ ap (end_told w s) (view_of_tail c.in-Tail.body))) c.add_body.ensures

pub add_item-returns : goal.add_item-returns
add_item-returns t c =
    let w = table_of c.args.words.now in
    let s = running_of c.args.told.now in
    let s1 = running_of c.add_type.new.self in
    let s5 = running_of c.back_to.new.self in
    let body = body_in c.args.item.now in
    on_to _ _ _ _
    (item_past w s s5 (running_of c.enter-2.new.self) body c.feature-2.result.0 (c.feature-2.ensures ∙ ap (number_of w.feats) c.deref-3.ensures)
    (item_done w s s1 (running_of c.enter.new.self) (running_of c.add_existence.new.self) (running_of c.add_body.new.told) s5 body c.len-depth.result c.type_of.result.0 c.feature.result.0
    (depth_is c.add_type.new.self.path c.len-depth.result c.len-depth.ensures ∙ ap (λ r. length r.path) c.in_ok-add_type.ensures)
    (c.type_of.ensures ∙ ap (type_number w.types) c.deref.ensures) (c.feature.ensures ∙ ap (number_of w.feats) c.deref-2.ensures)
    c.in_ok-add_type.ensures c.in_ok-enter.ensures c.in_ok-add_existence.ensures c.in_ok-add_body.ensures c.back_to.ensures)
    c.in_ok-enter-2.ensures)
    c.add_existence-2.ensures

pub add_items-loop-item-preserved : goal.add_items-loop-item-preserved
add_items-loop-item-preserved t c =
    let w = table_of c.args.words.now in
    let s = running_of c.args.told.now in
    let item = body_in c.item-item.result in
    let within : c.loop-item.item-index < length c.args.items.now.items = omega (arith, c.loop-item-test.true, c.deref-item-items.ensures.len, c.args.items.now.ok) in
    c.in_ok-add_item.ensures ∙ ap (λ r. items_told w r (more_items item no_items)) c.loop-item.invariant
    ∙ items_step w s (items_of (map body_in (take c.loop-item.item-index c.args.items.now.items))) item
    ∙ ap (items_told w s)
    (sym (items_next c.args.items.now.items c.loop-item.item-index c.item-item.result within (c.item-item.is ∙ ap (λ l. get_or l c.loop-item.item-index c.item-item.result) c.deref-item-items.ensures.value)))

pub add_term-returns-in-Name : goal.add_term-returns-in-Name
add_term-returns-in-Name t c =
    let w = table_of c.args.words.now in
    let s = running_of c.args.told.now in
    on_to _ _ _ _
    (ap (λ k. claimed (below s.path k) s) (c.type_of.ensures ∙ ap (type_number w.types) c.deref.ensures)
    ∙ sym (ap (λ r. term_told w s (term_of r)) c.in-Name.is ∙ ap (term_told w s) (view_of_name c.in-Name.name c.in-Name.at)))
    c.add_type.ensures

pub add_term-returns-in-Text : goal.add_term-returns-in-Text
add_term-returns-in-Text t c =
    let w = table_of c.args.words.now in
    let s = running_of c.args.told.now in
    on_to _ _ _ _
    (ap (λ k. claimed (below s.path k) s) (c.string.ensures ∙ ap (text_number w.types) c.deref-in-Text.ensures)
    ∙ sym (ap (λ r. term_told w s (term_of r)) c.in-Text.is ∙ ap (term_told w s) (view_of_text c.in-Text.text c.in-Text.at)))
    c.add_type-in-Text.ensures

pub add_term-returns-in-Coref : goal.add_term-returns-in-Coref
add_term-returns-in-Coref t c =
    let w = table_of c.args.words.now in
    let s = running_of c.args.told.now in
    on_to _ _ _ _
    (ap (λ m. carried m s.path s) c.deref-in-Coref.ensures
    ∙ sym (ap (λ r. term_told w s (term_of r)) c.in-Coref.is ∙ ap (term_told w s) (view_of_coref c.in-Coref.name c.in-Coref.at)))
    c.add_coreference.ensures

pub add_term-returns-in-Avm : goal.add_term-returns-in-Avm
add_term-returns-in-Avm t c =
    let w = table_of c.args.words.now in
    let s = running_of c.args.told.now in
    on_to _ _ _ _ (sym (ap (λ r. term_told w s (term_of r)) c.in-Avm.is ∙ ap (term_told w s) (view_of_avm c.in-Avm.attrs c.in-Avm.at))) c.add_attrs.ensures

pub add_term-returns-in-Diff : goal.add_term-returns-in-Diff
add_term-returns-in-Diff t c =
    let w = table_of c.args.words.now in
    let s = running_of c.args.told.now in
    on_to _ _ _ _ (sym (ap (λ r. term_told w s (term_of r)) c.in-Diff.is ∙ ap (term_told w s) (view_of_diff c.in-Diff.items c.in-Diff.at))) c.add_difference.ensures

pub add_term-returns-in_ok-add_end-in-List : goal.add_term-returns-in_ok-add_end-in-List
add_term-returns-in_ok-add_end-in-List t c =
    let w = table_of c.args.words.now in
    let s = running_of c.args.told.now in
    list_done w s (running_of c.add_items.new.told) (running_of c.add_end.new.told) (running_of c.back_to.new.self) (items_of (map body_in c.in-List.items.items)) (rest_of c.in-List.rest) c.len-depth.result
    (depth_is c.args.told.now.path c.len-depth.result c.len-depth.ensures) c.in_ok-add_items-in-List.ensures c.in_ok-add_end-in-List.ensures c.back_to.ensures
    ∙ sym (ap (λ r. term_told w s (term_of r)) c.in-List.is ∙ ap (term_told w s) (view_of_list c.in-List.items c.in-List.rest c.in-List.at))
