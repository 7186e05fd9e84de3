-- A rule with daughters, as the parts of a unification.
use Rattle.std.specs.Prelude.{ℕ, List, [], ◌∷◌, slice_get, slice_index_or, Some, None}
use Rattle.fs_model.specs.Claims.{Path}
use Rattle.fs_graph.specs.GraphMap.{GraphMap}
use Rattle.fs_unify.specs.Owing.{OwedRules, owes_nothing, owes_rules}
use Rattle.fs_unify.specs.Placing.{PlacedGraph}
use Rattle.grammar_shapes.specs.declared.phrase_rule.PhraseRule.{PhraseRule}
use Rattle.grammar_shapes.specs.Ruled.{places_of}

-- daughters at places, as many as there are; each owes the facts of the same rules
abbrev pub daughters_at : OwedRules → List Path → List GraphMap → List PlacedGraph
daughters_at owed [] gs = []
daughters_at owed (p ∷ ps) [] = []
daughters_at owed (p ∷ ps) (g ∷ gs) = record { place = p; graph = g; owes = owes_rules owed } ∷ daughters_at owed ps gs

abbrev pub parts_for : OwedRules → PhraseRule → List GraphMap → List PlacedGraph
parts_for owed r gs = record { place = []; graph = r.structure.now; owes = owes_nothing } ∷ daughters_at owed (places_of r) gs

-- the daughter of this number at its place, if there is one
abbrev pub daughter_at : OwedRules → List Path → List GraphMap → ℕ → List PlacedGraph
daughter_at owed ps gs k = elim (slice_get gs k) [ None ↦ [] | Some g ↦ record { place = slice_index_or ps k []; graph = g; owes = owes_rules owed } ∷ [] ]
