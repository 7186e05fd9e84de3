-- The phrase rules of a book: their places, and that the book's structure of each is the graph of the closure of its own facts.
use Rattle.std.proofs.Common.{ℕ, ◌≡◌, ◌<◌, List, [], ◌∷◌, Some, None, length, sym, ◌∙◌, ap, subst, zero, suc, arith}
use Rattle.std.specs.Prelude.{option_map, slice_get, slice_index_or}
use Rattle.std.proofs.lemmas.Option.{get_or_from_slice_get}
use Rattle.fs_model.specs.Claims.{System}
use Rattle.fs_model.specs.Closure.{Closure, given_claim}
use Rattle.fs_model.specs.Sources.{Source, Told}
use Rattle.fs_graph.specs.GraphMap.{GraphMap, reader_of}
use Rattle.fs_unify.specs.Rules.{system_of}
use Rattle.tree_model.specs.Mothers.{Rule}
use Rattle.tree_model.specs.Views.{Shows, source_alone}
use Rattle.tree_model.proofs.Closures.{grows}
use Rattle.tree_model.proofs.SaidLemmas.{alone_said, said_alone}
use Rattle.tree_model.proofs.ViewLemmas.{graph_shows, shows_same, alone_to, alone_back}
use Rattle.tree_model.specs.Signs.{Signs, rule_system}
use Rattle.book_signs.specs.Conditions.{IsClosed}
use Rattle.book_signs.specs.Signed.{facts_of}
use Rattle.book_signs.specs.Trees.{SignTree, signs_of, rule_at, facts_at, places_at, phrase_rules_of}
use Rattle.fs_model.specs.Claims.{Path}
use Rattle.rule_trees.specs.Mothers.{IsShortIn}
use Rattle.rule_trees.proofs.MakingLemmas.{inside}
use Rattle.rule_trees.proofs.PlaceLemmas.{phrase_at, phrases_long}
use Rattle.rule_trees.proofs.LineLemmas.{numbered_below}

got_below : {A : Type 0} (xs : List A) (i : ℕ) (x : A) → slice_get xs i ≡ Some x → i < length xs
got_below [] i x h = absurd (let q : None ≡ Some x = h in cc)
got_below (a ∷ xs) zero x h = omega arith
got_below (a ∷ xs) (suc i) x h = let l = got_below xs i x h in omega (arith, l)

module _ (g : Signs) (rules : List ℕ) (is : rules ≡ phrase_rules_of g) where
  place_here : (n d : ℕ) (l : n < length (rule_system g).rules) → slice_index_or rules n d ≡ (phrase_at g n l).place
  place_here n d l = get_or_from_slice_get rules n (phrase_at g n l).place d (ap (λ rs. slice_get rs n) is ∙ (phrase_at g n l).numbered)

  pub place_in : (n d : ℕ) → n < length rules → slice_index_or rules n d < length g.instances
  place_in n d lt =
      let l : n < length (rule_system g).rules = subst (λ k. n < k) (ap length is ∙ phrases_long g) lt in
      let z = phrase_at g n l in
      subst (λ p. p < length g.instances) (sym (place_here n d l)) (got_below g.instances z.place z.instance z.at)

  pub rule_below : (n : ℕ) (rule : Rule) → slice_get (rule_system g).rules n ≡ Some rule → n < length rules
  rule_below n rule e = numbered_below g rules n is (got_below (rule_system g).rules n rule e)

  pub rule_here : (n d : ℕ) (rule : Rule) → slice_get (rule_system g).rules n ≡ Some rule → rule_at g (slice_index_or rules n d) ≡ Some rule
  rule_here n d rule e =
      let l = got_below (rule_system g).rules n rule e in
      let z = phrase_at g n l in
      ap (rule_at g) (place_here n d l) ∙ z.rule_there ∙ sym z.rule_is ∙ e

pub facts_are : (g : Signs) (place : ℕ) (rule : Rule) (facts : Source) → rule_at g place ≡ Some rule → facts_at g place ≡ Some facts → rule.facts ≡ facts
facts_are g place rule facts e f = let z : Some rule.facts ≡ Some facts = sym (ap (option_map (λ (r : Rule). r.facts)) e) ∙ f in cc

pub places_are : (g : Signs) (place : ℕ) (rule : Rule) (places : List Path) → rule_at g place ≡ Some rule → places_at g place ≡ Some places → rule.places ≡ places
places_are g place rule places e f = let z : Some rule.places ≡ Some places = sym (ap (option_map (λ (r : Rule). r.places)) e) ∙ f in cc

pub rule_shows : (t : SignTree) (x : GraphMap) → IsClosed t.book.system x → IsShortIn t x → (facts : Source) → facts ≡ facts_of t.book.system x → Shows (signs_of t).system (Closure (signs_of t).system (Told facts)) (reader_of x)
rule_shows t x is short facts e = subst (λ src. Shows s (Closure s (Told src)) (reader_of x)) (sym e) own
  where
    s : System
    s = system_of t.book.system

    alone : Shows s (Closure s (Told (source_alone (reader_of x)))) (reader_of x)
    alone =
        shows_same s (reader_of x) (λ c a. grows s (λ d y. given_claim d (alone_back (reader_of x) d y)) a) (λ c a. grows s (λ d y. given_claim d (alone_to (reader_of x) d y)) a)
        (graph_shows s (reader_of x) is.answer.well_formed)

    own : Shows s (Closure s (Told (facts_of t.book.system x))) (reader_of x)
    own =
        shows_same s (reader_of x) (λ c a. alone_said s (signs_of t).paths (reader_of x) [] [] (inside t x short) a) (λ c a. said_alone s (signs_of t).paths (reader_of x) [] [] a) alone
