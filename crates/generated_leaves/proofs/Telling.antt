-- Lexical trees that are told, one after another.
use Rattle.std.specs.Prelude.{ℕ, All, ◌≡◌, ◌<◌, None, List, [], ◌∷◌, ◌++◌, map, length}
use Rattle.std.proofs.Common.{zero, suc, get_or, refl, sym, ◌∙◌, ap, subst, arith}
use Rattle.std.proofs.lemmas.List.{map-append, length-map}
use Rattle.std.proofs.Math.ListN.{get_or-map}
use Rattle.chart_model.specs.At.{At, here, there, Snoc, old, new, at_snoc}
use Rattle.fs_graph.specs.GraphMap.{GraphMap}
use Rattle.fs_unify.specs.Rules.{Grammar}
use Rattle.fs_unify.specs.Placing.{IsAnswerIn}
use Rattle.type_hierarchy.specs.Table.{TypeTable}
use Rattle.derivation.specs.Trees.{Derivation, lexical}
use Rattle.tree_model.specs.Structures.{Structure}
use Rattle.tree_model.specs.Mothers.{Meant}
use Rattle.tree_model.specs.Signs.{Signs, rule_system}
use Rattle.tree_model.specs.Lexical.{Word, Words}
use Rattle.tree_model.specs.Trees.{Full, full_lexical}
use Rattle.mrs_places.specs.Paths.{Paths}
use Rattle.mrs_places.specs.Asked.{IsTyped}
use Rattle.mrs_extract.specs.Asked.{ArePaths}
use Rattle.generate_model.specs.Contributing.{Predicates}
use Rattle.tree_structures.specs.Meant.{IsMeantBy}
use Rattle.generate_model.specs.Contributions.{IsGraphOf}
use Rattle.lexical_items.specs.Inflected.{WordTree, IsInflected, AreInflected}
use Rattle.generated_leaves.specs.Told.{ToldWord, word_of, IsSaid, IsToldWord, AreTold}
use Rattle.generated_leaves.specs.Inner.Telling.{AreToldOf}

-- the graph that a structure means is that of what it means
pub graph_meant : (g : Signs) (f : Structure) (graph : GraphMap) → IsMeantBy g f graph → IsGraphOf g.system (Meant (rule_system g) f) graph
graph_meant g f graph m = record {
  graph_is = m.graph_is;
  shows = record { paths = m.structure.paths; equalities = m.structure.equalities; types_there = m.structure.types_there; types_above = m.structure.types_above };
}

-- an answer of unification is a structure of the grammar's types
pub typed_answer : (g : Grammar) (p : Paths) (graph : GraphMap) → ArePaths g.types p → IsAnswerIn g graph → IsTyped g.types p graph
typed_answer g p graph are is = record { types_in = is.graph_in.types_in; cons_in = are.cons_in; null_in = are.null_in }

pub said_by : (g : Signs) (types : TypeTable) (paths : Paths) (f : Structure) (graph : GraphMap) (ws : List Word) → IsMeantBy g f graph → Predicates graph types paths paths.mrs_path ws → IsSaid g types paths f ws
said_by g types paths f graph ws m says input same_types same_paths = record {
  graph = graph;
  is = graph_meant g f graph m;
  says = subst (λ p. Predicates graph input.types p p.mrs_path ws) (sym same_paths) (subst (λ t. Predicates graph t paths paths.mrs_path ws) (sym same_types) says);
}

at_map : {A B : Type 0} (f : A → B) {xs : List A} {n : ℕ} {x : A} → At xs n x → At (map f xs) n (f x)
at_map f here = here
at_map f (there a) = there (at_map f a)

from_map : {A B : Type 0} (f : A → B) (xs : List A) {n : ℕ} {y : B} → At (map f xs) n y → (x : A) × At xs n x × (f x ≡ y)
from_map f [] a = elim a [ ]
from_map f (x ∷ xs) here = (x, here, refl)
from_map f (x ∷ xs) (there a) = let r = from_map f xs a in (r.0, there r.1, r.2)

module _ (g : Signs) (types : TypeTable) (paths : Paths) where
  pub none_told : AreToldOf g types paths [] []
  none_told = record { same = refl; said = λ n x a. elim a [ ] }

  pub told_more : (ws : List WordTree) (xs : List ToldWord) (w : WordTree) (x : ToldWord) → AreToldOf g types paths ws xs → word_of x ≡ w → IsSaid g types paths x.full x.preds → AreToldOf g types paths (ws ++ w ∷ []) (xs ++ x ∷ [])
  told_more ws xs w x are e says = record {
    same = map-append word_of xs (x ∷ []) ∙ ap (λ vs. vs ++ word_of x ∷ []) are.same ∙ ap (λ v. ws ++ v ∷ []) e;
    said = λ n y a. by_place n y (at_snoc xs x n y a);
  }
    where
      by_place : (n : ℕ) (y : ToldWord) → Snoc xs x n y → IsSaid g types paths y.full y.preds
      by_place n y (old a) = are.said n y a
      by_place n y (new p q) = subst (λ (z : ToldWord). IsSaid g types paths z.full z.preds) q says

  pub all_told : (words : Words) (most : ℕ) (ws : List WordTree) (xs : List ToldWord) → AreInflected g words most ws → AreToldOf g types paths ws xs → AreTold g words types paths most xs
  all_told words most ws xs are told = record { each = each; all = all; once = once }
    where
      word_at : (n : ℕ) (x : ToldWord) → At xs n x → At ws n (word_of x)
      word_at n x a = subst (λ vs. At vs n (word_of x)) told.same (at_map word_of a)

      each : (n : ℕ) (x : ToldWord) → At xs n x → IsToldWord g words types paths most x
      each n x a = record { inflected = are.each n (word_of x) (word_at n x a); said = told.said n x a }

      all : (w : WordTree) → IsInflected g words most w → (n : ℕ) × (x : ToldWord) × At xs n x × (x.tree ≡ w.tree)
      all w is =
          let r = are.all w is in
          let p = from_map word_of xs (subst (λ vs. At vs r.0 r.1) (sym told.same) r.2) in
          (r.0, p.0, p.1, ap (λ (v : WordTree). v.tree) p.2 ∙ r.3)

      once : (n m : ℕ) (x y : ToldWord) → At xs n x → At xs m y → x.tree ≡ y.tree → n ≡ m
      once n m x y a c e = are.once n m (word_of x) (word_of y) (word_at n x a) (word_at m y c) e

get_or_same : {A : Type 0} (xs : List A) (i : ℕ) (d e : A) → i < length xs → get_or xs i d ≡ get_or xs i e
get_or_same [] i d e lt = absurd (omega arith)
get_or_same (y ∷ ys) zero d e lt = refl
get_or_same (y ∷ ys) (suc i) d e lt = get_or_same ys i d e (omega arith)

at_get : {A : Type 0} (xs : List A) (i : ℕ) (x : A) → i < length xs → x ≡ get_or xs i x → At xs i x
at_get [] i x lt e = absurd (omega arith)
at_get (y ∷ ys) zero x lt e = subst (At (y ∷ ys) zero) (sym e) here
at_get (y ∷ ys) (suc i) x lt e = there (at_get ys i x (omega arith) e)

at_of : {A : Type 0} (xs : List A) (i : ℕ) (d : A) → i < length xs → At xs i (get_or xs i d)
at_of xs i d lt = at_get xs i (get_or xs i d) lt (get_or_same xs i d (get_or xs i d) lt)

-- each tree of the list has a full structure
pub fulls_in : (g : Signs) (words : Words) (most : ℕ) (ws : List WordTree) → AreInflected g words most ws → All (λ (w : WordTree). (d : Derivation) × Full g d w.full) ws
fulls_in g words most ws are i d lt =
    let is = are.each i (get_or ws i d) (at_of ws i d lt) in
    (lexical is.entry is.rules is.said None, full_lexical is.full)

-- the tree at a place has one
pub full_at : {T : Type 0} (seen : T → WordTree) (g : Signs) (all : List T) (i : ℕ) (x : T) → All (λ (w : WordTree). (d : Derivation) × Full g d w.full) (map seen all) → i < length all → x ≡ get_or all i x → (d : Derivation) × Full g d (seen x).full
full_at seen g all i x each lt e =
    let l : i < length (map seen all) = rw (length-map all seen) lt in
    let same : get_or (map seen all) i (seen x) ≡ seen x = get_or-map seen all i x ∙ ap seen (sym e) in
    subst (λ (w : WordTree). (d : Derivation) × Full g d w.full) same (each i (seen x) l)

-- one tree more, as a loop has it
pub told_next : {T U : Type 0} (g : Signs) (types : TypeTable) (paths : Paths) (seen : T → WordTree) (shown : U → ToldWord) (done : List T) (one : T) (out next : List U) (x : U) → AreToldOf g types paths (map seen done) (map shown out) →
    word_of (shown x) ≡ seen one → IsSaid g types paths (shown x).full (shown x).preds → next ≡ out ++ x ∷ [] → AreToldOf g types paths (map seen (done ++ one ∷ [])) (map shown next)
told_next g types paths seen shown done one out next x are e says is =
    subst (λ ws. AreToldOf g types paths ws (map shown next)) (sym (map-append seen done (one ∷ [])))
    (subst (AreToldOf g types paths (map seen done ++ seen one ∷ [])) (sym (ap (map shown) is ∙ map-append shown out (x ∷ [])))
    (told_more g types paths (map seen done) (map shown out) (seen one) (shown x) are e says))
