use Rattle.std.proofs.Common.{◌∙◌, map, option_map, None, Some, ap, sym}
use Rattle.closed_lists.specs.Names.{names_of, ListTree}
use Rattle.fs_graph.specs.Facts.{path_of}
use Rattle.constraint_expand.specs.Books.{instance_of}
use Rattle.std.specs.List.{range_with_len}
use Rattle.book_signs.specs.Signed.{known_of, element_path}
use Rattle.book_signs.proofs.PlaceLemmas.{has_some, has_features, no_list_none, daughters_made, list_moved}
use Rattle.std.proofs.lemmas.Result.{IfOk-weaker}
use Rattle.std.proofs.lemmas.List.{length-map}
use Rattle.book_signs.specs.Trees.{paths_of}
use Rattle.book_signs.proofs.placing.daughters_of.Goals as goal

pub unreachable-requires : goal.unreachable-requires
unreachable-requires c =
    let b = c.args.book.now in
    let d = has_some b (instance_of c.args.instance.now) c.requires.rule c.requires.daughters in
    no_list_none b c.args.instance.now.structure d
    (list_moved b c.args.instance.now.structure c.types-types.result.now (names_of c.list_names-lists.result) (map (option_map (λ f. f.0)) c.deref.result.now) None c.types-types.ensures c.list_names-lists.ensures
    (ap (map (option_map (λ f. f.0))) c.deref.ensures.value) (rw c.in_default.is at c.in_ok-elements.ensures))

pub unreachable-requires-in_default-first : goal.unreachable-requires-in_default-first
unreachable-requires-in_default-first c =
    let b = c.args.book.now in
    let d = has_some b (instance_of c.args.instance.now) c.requires.rule c.requires.daughters in
    (has_features b c.args.instance.now.structure d).0 (ap (λ (n : ListTree). n.first) (sym c.list_names-lists.ensures) ∙ ap (option_map (λ f. f.0)) c.in_default-first.is)

pub unreachable-requires-in_default-rest : goal.unreachable-requires-in_default-rest
unreachable-requires-in_default-rest c =
    let b = c.args.book.now in
    let d = has_some b (instance_of c.args.instance.now) c.requires.rule c.requires.daughters in
    (has_features b c.args.instance.now.structure d).1 (ap (λ (n : ListTree). n.rest) (sym c.list_names-lists.ensures) ∙ ap (option_map (λ f. f.0)) c.in_default-rest.is)

pub returns : goal.returns
returns c =
    let b = c.args.book.now in
    let lists = ap (map (option_map (λ f. f.0))) c.deref.ensures.value in
    let known = ap (λ l. known_of (map (option_map (λ f. f.0)) l)) c.deref-2.ensures.value in
    let first = ap (λ (n : ListTree). n.first) (sym c.list_names-lists.ensures) ∙ ap (option_map (λ f. f.0)) c.in-Some-first.is in
    let rest = ap (λ (n : ListTree). n.rest) (sym c.list_names-lists.ensures) ∙ ap (option_map (λ f. f.0)) c.in-Some-rest.is in
    let found = list_moved b c.args.instance.now.structure c.types-types.result.now (names_of c.list_names-lists.result) (map (option_map (λ f. f.0)) c.deref.result.now) (Some (map (λ n. n.0) c.in-Some.elements.items)) c.types-types.ensures
    c.list_names-lists.ensures lists (rw c.in-Some.is at c.in_ok-elements.ensures) in
    let count = c.len.ensures ∙ c.in-Some.elements.ok.0 ∙ sym (length-map c.in-Some.elements.items (λ n. n.0)) in
    IfOk-weaker c.element_paths.result _ _
    (λ v p. daughters_made b c.args.instance.now.structure (map (λ n. n.0) c.in-Some.elements.items) c.in-Some-first.first.0 c.in-Some-rest.rest.0 (path_of c.in_ok-list.list.items) c.len.result (paths_of v.items) found first rest
    (c.in_ok-list.ensures ∙ known) count (p ∙ ap (λ l. map (element_path (path_of l) c.in-Some-first.first.0 c.in-Some-rest.rest.0) (range_with_len 0 c.len.result)) c.deref-3.ensures.value))
    c.element_paths.ensures
