use Rattle.std.proofs.Common.{◌≡◌, ◌<◌, ◌≤◌, ◌∙◌, ◌++◌, ◌∷◌, [], true, false, length, map, sym, ap, get_or, arith, refl}
use Rattle.std.specs.List.{flat_map, find}
use Rattle.std.specs.Prelude.{is_some}
use Rattle.std.specs.Option.{option_map}
use Rattle.std.proofs.lemmas.List.{take_all}
use Rattle.tdl_reader.specs.Trees.{items_of}
use Rattle.tdl_reader.specs.Views.{term_of, body_in, rest_of, attr_of}
use Rattle.tdl_reader.proofs.Rows.{view_of_name, view_of_avm, view_of_list, view_of_diff, view_of_tail}
use Rattle.body_facts.specs.Writing.{list_names}
use Rattle.body_facts.specs.Mentions.{mention, mention_of, is_unknown, cell_mentions, end_mentions, term_mentions, body_mentions, attrs_mention, items_mention, tail_mentions}
use Rattle.body_facts.proofs.FoundFirst.{both_hit, both_miss, hit, miss, some_of_map}
use Rattle.body_facts.proofs.MentionLemmas.{no_tail, no_mention}
use Rattle.body_facts.proofs.Parts.{body_flat, attrs_flat, items_flat}
use Rattle.body_facts.proofs.mentioned.+mentions.Goals as goal

pub in_tail-returns-in-Tail : goal.in_tail-returns-in-Tail
in_tail-returns-in-Tail t c =
    let n = list_names c.args.names.now in
    c.in_body.ensures ∙ ap (find (is_unknown c.args.types.now)) (sym (ap (λ r. tail_mentions n (rest_of r)) c.in-Tail.is ∙ ap (tail_mentions n) (view_of_tail c.in-Tail.body)))

pub in_tail-returns-in-Closed : goal.in_tail-returns-in-Closed
in_tail-returns-in-Closed t c = sym (ap (find (is_unknown c.args.types.now)) (no_tail (list_names c.args.names.now) c.args.rest.now c.in-Closed.is))

pub in_term-returns-in-Name : goal.in_term-returns-in-Name
in_term-returns-in-Name t c =
    let n = list_names c.args.names.now in
    c.unless_known.ensures ∙ ap (λ m. find (is_unknown c.args.types.now) (mention c.in-Name.at m ∷ [])) c.deref.ensures
    ∙ ap (find (is_unknown c.args.types.now)) (sym (ap (λ r. term_mentions n (term_of r)) c.in-Name.is ∙ ap (term_mentions n) (view_of_name c.in-Name.name c.in-Name.at)))

pub in_term-returns-in-Avm : goal.in_term-returns-in-Avm
in_term-returns-in-Avm t c =
    let n = list_names c.args.names.now in
    c.in_attrs.ensures ∙ ap (find (is_unknown c.args.types.now)) (sym (ap (λ r. term_mentions n (term_of r)) c.in-Avm.is ∙ ap (term_mentions n) (view_of_avm c.in-Avm.attrs c.in-Avm.at)))

pub in_term-returns-in-Text : goal.in_term-returns-in-Text
in_term-returns-in-Text t c = sym (ap (find (is_unknown c.args.types.now)) (no_mention (list_names c.args.names.now) c.args.term.now c.in-Text.is))

pub in_term-returns-then-is_some : goal.in_term-returns-then-is_some
in_term-returns-then-is_some t c =
    let n = list_names c.args.names.now in
    let p = is_unknown c.args.types.now in
    let items = items_of (map body_in c.in-List.items.items) in
    let rest = rest_of c.in-List.rest in
    let o = option_map mention_of c.in_list-own.result in
    let some : is_some o ≡ true = some_of_map mention_of c.in_list-own.result true (sym c.is_some.ensures ∙ c.if-is_some.true) in
    both_hit p o ((cell_mentions n c.in-List.at items ++ end_mentions n c.in-List.at rest) ++ items_mention n items) (tail_mentions n rest)
    (both_hit p o (cell_mentions n c.in-List.at items ++ end_mentions n c.in-List.at rest) (items_mention n items) c.in_list-own.ensures some) some
    ∙ ap (find p) (sym (ap (λ r. term_mentions n (term_of r)) c.in-List.is ∙ ap (term_mentions n) (view_of_list c.in-List.items c.in-List.rest c.in-List.at)))

pub in_term-returns-then-is_some-2 : goal.in_term-returns-then-is_some-2
in_term-returns-then-is_some-2 t c =
    let n = list_names c.args.names.now in
    let p = is_unknown c.args.types.now in
    let items = items_of (map body_in c.in-List.items.items) in
    let rest = rest_of c.in-List.rest in
    let o = option_map mention_of c.in_list-own.result in
    let r = option_map mention_of c.in_items-among.result in
    let none : is_some o ≡ false = some_of_map mention_of c.in_list-own.result false (sym c.is_some.ensures ∙ c.if-is_some.false) in
    let some : is_some r ≡ true = some_of_map mention_of c.in_items-among.result true (sym c.is_some-in-List.ensures ∙ c.if-is_some-2.true) in
    both_hit p r ((cell_mentions n c.in-List.at items ++ end_mentions n c.in-List.at rest) ++ items_mention n items) (tail_mentions n rest)
    (both_miss p o r (cell_mentions n c.in-List.at items ++ end_mentions n c.in-List.at rest) (items_mention n items) c.in_list-own.ensures none c.in_items-among.ensures) some
    ∙ ap (find p) (sym (ap (λ x. term_mentions n (term_of x)) c.in-List.is ∙ ap (term_mentions n) (view_of_list c.in-List.items c.in-List.rest c.in-List.at)))

pub in_term-returns-else-is_some-2 : goal.in_term-returns-else-is_some-2
in_term-returns-else-is_some-2 t c =
    let n = list_names c.args.names.now in
    let p = is_unknown c.args.types.now in
    let items = items_of (map body_in c.in-List.items.items) in
    let rest = rest_of c.in-List.rest in
    let o = option_map mention_of c.in_list-own.result in
    let r = option_map mention_of c.in_items-among.result in
    let none : is_some o ≡ false = some_of_map mention_of c.in_list-own.result false (sym c.is_some.ensures ∙ c.if-is_some.false) in
    let no : is_some r ≡ false = some_of_map mention_of c.in_items-among.result false (sym c.is_some-in-List.ensures ∙ c.if-is_some-2.false) in
    both_miss p r (option_map mention_of c.in_tail.result) ((cell_mentions n c.in-List.at items ++ end_mentions n c.in-List.at rest) ++ items_mention n items) (tail_mentions n rest)
    (both_miss p o r (cell_mentions n c.in-List.at items ++ end_mentions n c.in-List.at rest) (items_mention n items) c.in_list-own.ensures none c.in_items-among.ensures) no c.in_tail.ensures
    ∙ ap (find p) (sym (ap (λ x. term_mentions n (term_of x)) c.in-List.is ∙ ap (term_mentions n) (view_of_list c.in-List.items c.in-List.rest c.in-List.at)))

pub in_term-returns-then-is_some-3 : goal.in_term-returns-then-is_some-3
in_term-returns-then-is_some-3 t c =
    let n = list_names c.args.names.now in
    let p = is_unknown c.args.types.now in
    let items = items_of (map body_in c.in-Diff.items.items) in
    let o = option_map mention_of c.in_cell-own.result in
    both_hit p o (cell_mentions n c.in-Diff.at items) (items_mention n items) c.in_cell-own.ensures (some_of_map mention_of c.in_cell-own.result true (sym c.is_some-in-Diff.ensures ∙ c.if-is_some-3.true))
    ∙ ap (find p) (sym (ap (λ r. term_mentions n (term_of r)) c.in-Diff.is ∙ ap (term_mentions n) (view_of_diff c.in-Diff.items c.in-Diff.at)))

pub in_term-returns-else-is_some-3 : goal.in_term-returns-else-is_some-3
in_term-returns-else-is_some-3 t c =
    let n = list_names c.args.names.now in
    let p = is_unknown c.args.types.now in
    let items = items_of (map body_in c.in-Diff.items.items) in
    let o = option_map mention_of c.in_cell-own.result in
    both_miss p o (option_map mention_of c.in_items.result) (cell_mentions n c.in-Diff.at items) (items_mention n items) c.in_cell-own.ensures
    (some_of_map mention_of c.in_cell-own.result false (sym c.is_some-in-Diff.ensures ∙ c.if-is_some-3.false)) c.in_items.ensures
    ∙ ap (find p) (sym (ap (λ r. term_mentions n (term_of r)) c.in-Diff.is ∙ ap (term_mentions n) (view_of_diff c.in-Diff.items c.in-Diff.at)))

pub in_attrs-returns-then-is_some : goal.in_attrs-returns-then-is_some
in_attrs-returns-then-is_some t c =
    let n = list_names c.args.names.now in
    let within : c.loop-attr.attr-index < length c.args.attrs.now.items = omega (arith, c.loop-attr-test.true, c.deref-attr-items.ensures.len, c.args.attrs.now.ok) in
    hit (is_unknown c.args.types.now) (λ a. body_mentions n (attr_of a).body) c.args.attrs.now.items c.loop-attr.attr-index c.attr-item.result (option_map mention_of c.in_body-found.result) within
    (c.attr-item.is ∙ ap (λ l. get_or l c.loop-attr.attr-index c.attr-item.result) c.deref-attr-items.ensures.value) c.loop-attr.invariant c.in_body-found.ensures
    (some_of_map mention_of c.in_body-found.result true (sym c.is_some.ensures ∙ c.if-is_some.true))
    ∙ ap (find (is_unknown c.args.types.now)) (attrs_flat (λ a. body_mentions n (attr_of a).body) (attrs_mention n) refl (λ x m. refl) c.args.attrs.now.items)

pub in_attrs-loop-attr-preserved : goal.in_attrs-loop-attr-preserved
in_attrs-loop-attr-preserved t c =
    let n = list_names c.args.names.now in
    let within : c.loop-attr.attr-index < length c.args.attrs.now.items = omega (arith, c.loop-attr-test.true, c.deref-attr-items.ensures.len, c.args.attrs.now.ok) in
    miss (is_unknown c.args.types.now) (λ a. body_mentions n (attr_of a).body) c.args.attrs.now.items c.loop-attr.attr-index c.attr-item.result (option_map mention_of c.in_body-found.result) within
    (c.attr-item.is ∙ ap (λ l. get_or l c.loop-attr.attr-index c.attr-item.result) c.deref-attr-items.ensures.value) c.loop-attr.invariant c.in_body-found.ensures
    (some_of_map mention_of c.in_body-found.result false (sym c.is_some.ensures ∙ c.if-is_some.false))

pub in_attrs-returns : goal.in_attrs-returns
in_attrs-returns t c =
    let n = list_names c.args.names.now in
    let past : length c.args.attrs.now.items ≤ c.loop-attr.attr-index = omega (arith, c.loop-attr-test.false, c.deref-attr-items.ensures.len, c.args.attrs.now.ok) in
    sym (ap (find (is_unknown c.args.types.now)) (sym (attrs_flat (λ a. body_mentions n (attr_of a).body) (attrs_mention n) refl (λ x m. refl) c.args.attrs.now.items) ∙ ap (flat_map (λ a. body_mentions n (attr_of a).body)) (sym (take_all c.loop-attr.attr-index c.args.attrs.now.items past))) ∙ c.loop-attr.invariant)

pub in_body-returns-then-is_some : goal.in_body-returns-then-is_some
in_body-returns-then-is_some t c =
    let n = list_names c.args.names.now in
    let within : c.loop-term.term-index < length c.args.body.now.terms.items = omega (arith, c.loop-term-test.true, c.deref-term-items.ensures.len, c.args.body.now.terms.ok) in
    hit (is_unknown c.args.types.now) (λ x. term_mentions n (term_of x)) c.args.body.now.terms.items c.loop-term.term-index c.term-item.result (option_map mention_of c.in_term-found.result) within
    (c.term-item.is ∙ ap (λ l. get_or l c.loop-term.term-index c.term-item.result) c.deref-term-items.ensures.value) c.loop-term.invariant c.in_term-found.ensures
    (some_of_map mention_of c.in_term-found.result true (sym c.is_some.ensures ∙ c.if-is_some.true))
    ∙ ap (find (is_unknown c.args.types.now)) (body_flat (term_mentions n) (body_mentions n) refl (λ x m. refl) c.args.body.now.terms.items)

pub in_body-loop-term-preserved : goal.in_body-loop-term-preserved
in_body-loop-term-preserved t c =
    let n = list_names c.args.names.now in
    let within : c.loop-term.term-index < length c.args.body.now.terms.items = omega (arith, c.loop-term-test.true, c.deref-term-items.ensures.len, c.args.body.now.terms.ok) in
    miss (is_unknown c.args.types.now) (λ x. term_mentions n (term_of x)) c.args.body.now.terms.items c.loop-term.term-index c.term-item.result (option_map mention_of c.in_term-found.result) within
    (c.term-item.is ∙ ap (λ l. get_or l c.loop-term.term-index c.term-item.result) c.deref-term-items.ensures.value) c.loop-term.invariant c.in_term-found.ensures
    (some_of_map mention_of c.in_term-found.result false (sym c.is_some.ensures ∙ c.if-is_some.false))

pub in_body-returns : goal.in_body-returns
in_body-returns t c =
    let n = list_names c.args.names.now in
    let past : length c.args.body.now.terms.items ≤ c.loop-term.term-index = omega (arith, c.loop-term-test.false, c.deref-term-items.ensures.len, c.args.body.now.terms.ok) in
    sym (ap (find (is_unknown c.args.types.now)) (sym (body_flat (term_mentions n) (body_mentions n) refl (λ x m. refl) c.args.body.now.terms.items) ∙ ap (flat_map (λ x. term_mentions n (term_of x))) (sym (take_all c.loop-term.term-index c.args.body.now.terms.items past))) ∙ c.loop-term.invariant)

pub in_items-returns-then-is_some : goal.in_items-returns-then-is_some
in_items-returns-then-is_some t c =
    let n = list_names c.args.names.now in
    let within : c.loop-item.item-index < length c.args.items.now.items = omega (arith, c.loop-item-test.true, c.deref-item-items.ensures.len, c.args.items.now.ok) in
    hit (is_unknown c.args.types.now) (λ b. body_mentions n (body_in b)) c.args.items.now.items c.loop-item.item-index c.item-item.result (option_map mention_of c.in_body-found.result) within
    (c.item-item.is ∙ ap (λ l. get_or l c.loop-item.item-index c.item-item.result) c.deref-item-items.ensures.value) c.loop-item.invariant c.in_body-found.ensures
    (some_of_map mention_of c.in_body-found.result true (sym c.is_some.ensures ∙ c.if-is_some.true))
    ∙ ap (find (is_unknown c.args.types.now)) (items_flat (body_mentions n) (items_mention n) refl (λ x m. refl) c.args.items.now.items)

pub in_items-loop-item-preserved : goal.in_items-loop-item-preserved
in_items-loop-item-preserved t c =
    let n = list_names c.args.names.now in
    let within : c.loop-item.item-index < length c.args.items.now.items = omega (arith, c.loop-item-test.true, c.deref-item-items.ensures.len, c.args.items.now.ok) in
    miss (is_unknown c.args.types.now) (λ b. body_mentions n (body_in b)) c.args.items.now.items c.loop-item.item-index c.item-item.result (option_map mention_of c.in_body-found.result) within
    (c.item-item.is ∙ ap (λ l. get_or l c.loop-item.item-index c.item-item.result) c.deref-item-items.ensures.value) c.loop-item.invariant c.in_body-found.ensures
    (some_of_map mention_of c.in_body-found.result false (sym c.is_some.ensures ∙ c.if-is_some.false))

pub in_items-returns : goal.in_items-returns
in_items-returns t c =
    let n = list_names c.args.names.now in
    let past : length c.args.items.now.items ≤ c.loop-item.item-index = omega (arith, c.loop-item-test.false, c.deref-item-items.ensures.len, c.args.items.now.ok) in
    sym (ap (find (is_unknown c.args.types.now)) (sym (items_flat (body_mentions n) (items_mention n) refl (λ x m. refl) c.args.items.now.items) ∙ ap (flat_map (λ b. body_mentions n (body_in b))) (sym (take_all c.loop-item.item-index c.args.items.now.items past))) ∙ c.loop-item.invariant)
