-- The parts of a rule with its daughters.
use Rattle.std.specs.Prelude.{◌≡◌, ◌≤◌, ◌++◌, Vec, List, [], ◌∷◌, length, map}
use Rattle.std.specs.Global.{Global}
use Rattle.std.proofs.Common.{refl, ap, suc, arith}
use Rattle.fs_graph.specs.Facts.{path_of}
use Rattle.fs_graph.specs.declared.facts.Feat.{Feat}
use Rattle.fs_model.specs.Claims.{Path}
use Rattle.chart_model.specs.declared.covers.Tuple.{Tuple}
use Rattle.chart_model.specs.Tuples.{shapes_of, parts_of, IsTuple}
use Rattle.fs_graph.specs.GraphMap.{GraphMap}
use Rattle.fs_unify.specs.Owing.{OwedRules}
use Rattle.fs_unify.specs.Placing.{PlacedGraph}
use Rattle.grammar_shapes.specs.declared.phrase_rule.PhraseRule.{PhraseRule}
use Rattle.grammar_shapes.specs.Ruled.{places_of}
use Rattle.grammar_shapes.specs.Inner.Parts.{daughter_at, daughters_at}
use Rattle.grammar_shapes.specs.Shaped.{Shape, graph_of}

none_at : (owed : OwedRules) (ps : List Path) → daughters_at owed ps [] ≡ []
none_at owed [] = refl
none_at owed (p ∷ ps) = refl

all_daughters : (owed : OwedRules) (x : PlacedGraph) (ps : List Path) (gs : List GraphMap) → length gs ≤ length ps → length gs ≤ 4 →
    (((([] ++ x ∷ []) ++ daughter_at owed ps gs 0) ++ daughter_at owed ps gs 1) ++ daughter_at owed ps gs 2) ++ daughter_at owed ps gs 3 ≡ x ∷ daughters_at owed ps gs
all_daughters owed x ps [] h k = ap (λ l. x ∷ l) (rw (none_at owed ps) refl)
all_daughters owed x [] (a ∷ gs) h k = absurd (omega arith)
all_daughters owed x (p ∷ ps) (a ∷ []) h k = rw (none_at owed ps) refl
all_daughters owed x (p ∷ []) (a ∷ b ∷ gs) h k = absurd (omega arith)
all_daughters owed x (p ∷ q ∷ ps) (a ∷ b ∷ []) h k = rw (none_at owed ps) refl
all_daughters owed x (p ∷ q ∷ []) (a ∷ b ∷ c ∷ gs) h k = absurd (omega arith)
all_daughters owed x (p ∷ q ∷ r ∷ ps) (a ∷ b ∷ c ∷ []) h k = rw (none_at owed ps) refl
all_daughters owed x (p ∷ q ∷ r ∷ []) (a ∷ b ∷ c ∷ d ∷ gs) h k = absurd (omega arith)
all_daughters owed x (p ∷ q ∷ r ∷ s ∷ ps) (a ∷ b ∷ c ∷ d ∷ []) h k = rw (none_at owed ps) refl
all_daughters owed x (p ∷ q ∷ r ∷ s ∷ ps) (a ∷ b ∷ c ∷ d ∷ e ∷ gs) h k = absurd (omega arith)

pub same_length : {A B : Type 0} (f : A → B) (xs : List A) → length (map f xs) ≡ length xs
same_length f [] = refl
same_length f (x ∷ xs) = ap suc (same_length f xs)

pub shapes_counted : {T C : Type 0} (t : Tuple T C) → IsTuple t → length (shapes_of t) ≡ t.count
shapes_counted t is = let a = same_length (λ p. p.shape) (parts_of t) in let b = is.counted in omega (arith, a, b)

-- daughters that are added one after another are all that there are
pub parts_are : {C : Type 0} (rule : PhraseRule) (t : Tuple Shape C) (owed : OwedRules) → IsTuple t → t.count ≤ length rule.places.items → t.count ≤ 4 → (x : PlacedGraph) →
    (((([] ++ x ∷ []) ++ daughter_at owed (places_of rule) (map graph_of (shapes_of t)) 0) ++ daughter_at owed (places_of rule) (map graph_of (shapes_of t)) 1) ++ daughter_at owed (places_of rule) (map graph_of (shapes_of t)) 2) ++ daughter_at owed (places_of rule) (map graph_of (shapes_of t)) 3 ≡ x ∷ daughters_at owed (places_of rule) (map graph_of (shapes_of t))
parts_are rule t owed is h k x =
    let a = same_length graph_of (shapes_of t) in
    let b = shapes_counted t is in
    let d : length (places_of rule) ≡ length rule.places.items = same_length (λ (p : Vec Feat Global). path_of p.items) rule.places.items in
    all_daughters owed x (places_of rule) (map graph_of (shapes_of t)) (omega (arith, a, b, d, h)) (omega (arith, a, b, k))
