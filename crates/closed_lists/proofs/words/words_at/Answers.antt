use Rattle.std.proofs.Common.{◌≡◌, ◌∙◌, ◌<◌, ◌==◌, [], length, map, None, Some, string_bytes, refl, sym, ap, subst, arith}
use Rattle.std.specs.Option.{option_map}
use Rattle.std.specs.Prelude.{All}
use Rattle.std.proofs.lemmas.List.{length-map}
use Rattle.closed_lists.specs.Names.{names_of, words_in}
use Rattle.closed_lists.specs.Lists.{IsListAt}
use Rattle.closed_lists.specs.Inner.Spoken.{AreWordsOf}
use Rattle.closed_lists.proofs.ListLemmas.{list_in, nodes_in}
use Rattle.closed_lists.proofs.WordLemmas.{none_spoken, none_some, no_items, some_items}
use Rattle.closed_lists.proofs.words.words_at.Goals as goal

pub words_of-requires-clause-inside : goal.words_of-requires-clause-inside
words_of-requires-clause-inside c =
    let size = length c.args.graph.now.types in
    subst (λ l. All (λ n. n.0 < size) l) (sym c.deref.ensures.value)
    (nodes_in c.in-Some.nodes.items size (list_in c.args.types.now (names_of c.args.names.now) c.args.graph.now (map (option_map (λ f. f.0)) c.args.path.now) (map (λ n. n.0) c.in-Some.nodes.items) c.laws.ensures (subst (λ o. IsListAt c.args.types.now (names_of c.args.names.now) c.args.graph.now (map (option_map (λ f. f.0)) c.args.path.now) (option_map (λ v. map (λ n. n.0) v.items) o)) c.in-Some.is c.in_ok-nodes.ensures)))

pub returns-in_default : goal.returns-in_default
returns-in_default c = λ ws h.
    (subst (λ o. IsListAt c.args.types.now (names_of c.args.names.now) c.args.graph.now (map (option_map (λ f. f.0)) c.args.path.now) (option_map (λ v. map (λ n. n.0) v.items) o)) c.in_default.is c.in_ok-nodes.ensures) h.elements h.list

pub returns-in_default-2 : goal.returns-in_default-2
returns-in_default-2 c = λ ws h.
    none_spoken c.args.types.now (names_of c.args.names.now) c.args.graph.now (map (option_map (λ f. f.0)) c.args.path.now) (map (λ n. n.0) c.in-Some.nodes.items) ws (subst (λ o. IsListAt c.args.types.now (names_of c.args.names.now) c.args.graph.now (map (option_map (λ f. f.0)) c.args.path.now) (option_map (λ v. map (λ n. n.0) v.items) o)) c.in-Some.is c.in_ok-nodes.ensures) (subst (λ o. AreWordsOf c.args.types.now c.args.graph.now (map (λ n. n.0) c.in-Some.nodes.items) (option_map words_in o)) c.in_default-2.is (subst (λ l. AreWordsOf c.args.types.now c.args.graph.now (map (λ n. n.0) l) (option_map words_in c.in_ok-words.field-0)) c.deref.ensures.value c.in_ok-words.ensures)) h

pub returns-then-is_empty : goal.returns-then-is_empty
returns-then-is_empty c = λ ws h.
    none_some c.args.types.now (names_of c.args.names.now) c.args.graph.now (map (option_map (λ f. f.0)) c.args.path.now) (map (λ n. n.0) c.in-Some.nodes.items) ws (words_in c.in-Some-2.words) (subst (λ o. IsListAt c.args.types.now (names_of c.args.names.now) c.args.graph.now (map (option_map (λ f. f.0)) c.args.path.now) (option_map (λ v. map (λ n. n.0) v.items) o)) c.in-Some.is c.in_ok-nodes.ensures) (subst (λ o. AreWordsOf c.args.types.now c.args.graph.now (map (λ n. n.0) c.in-Some.nodes.items) (option_map words_in o)) c.in-Some-2.is (subst (λ l. AreWordsOf c.args.types.now c.args.graph.now (map (λ n. n.0) l) (option_map words_in c.in_ok-words.field-0)) c.deref.ensures.value c.in_ok-words.ensures))
    (ap (map string_bytes) (no_items c.in-Some-2.words.items _ c.in-Some-2.words.ok.0 (sym c.is_empty.ensures ∙ c.if-is_empty.true))) h

pub returns : goal.returns
returns c =
    let some = some_items c.in-Some-2.words.items _ c.in-Some-2.words.ok.0 (sym c.is_empty.ensures ∙ c.if-is_empty.false) in
    let all = length-map c.in-Some-2.words.items string_bytes in
    record {
      elements = map (λ n. n.0) c.in-Some.nodes.items;
      list = (subst (λ o. IsListAt c.args.types.now (names_of c.args.names.now) c.args.graph.now (map (option_map (λ f. f.0)) c.args.path.now) (option_map (λ v. map (λ n. n.0) v.items) o)) c.in-Some.is c.in_ok-nodes.ensures);
      spoken = (subst (λ o. AreWordsOf c.args.types.now c.args.graph.now (map (λ n. n.0) c.in-Some.nodes.items) (option_map words_in o)) c.in-Some-2.is (subst (λ l. AreWordsOf c.args.types.now c.args.graph.now (map (λ n. n.0) l) (option_map words_in c.in_ok-words.field-0)) c.deref.ensures.value c.in_ok-words.ensures));
      some = omega (arith, some, all);
    }
