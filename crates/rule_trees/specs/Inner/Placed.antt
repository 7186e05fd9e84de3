-- A rule with its daughters, as parts of a unification; only private clauses cite it.
use Rattle.std.specs.Prelude.{Option, Some, None, List, [], ◌∷◌}
use Rattle.std.specs.Global.{Global}
use Rattle.std.specs.Arc.{arc_value}
use Rattle.std.specs.declared.sync.Arc.{Arc}
use Rattle.fs_model.specs.Claims.{Path}
use Rattle.fs_graph.specs.GraphMap.{GraphMap}
use Rattle.fs_unify.specs.Owing.{OwedRules, owes_nothing, owes_rules}
use Rattle.fs_unify.specs.Placing.{PlacedGraph}

-- daughters at their places, from the left; each owes the facts of the same rules
abbrev pub daughters_at : OwedRules → List Path → List GraphMap → List PlacedGraph
daughters_at owed [] graphs = []
daughters_at owed (p ∷ ps) [] = []
daughters_at owed (p ∷ ps) (g ∷ graphs) = record { place = p; graph = g; owes = owes_rules owed } ∷ daughters_at owed ps graphs

-- an instance's structure with daughters at their places
abbrev pub placed_with : OwedRules → GraphMap → List Path → List GraphMap → List PlacedGraph
placed_with owed structure places daughters = record { place = []; graph = structure; owes = owes_nothing } ∷ daughters_at owed places daughters

-- a root with a structure
abbrev pub placed_both : OwedRules → GraphMap → GraphMap → List PlacedGraph
placed_both owed root full = record { place = []; graph = root; owes = owes_nothing } ∷ record { place = []; graph = full; owes = owes_rules owed } ∷ []

-- the full structure of a daughter, if there is one
abbrev pub full_in : {T : Type 0} → Option (Arc T Global) → List T
full_in None = []
full_in (Some full) = arc_value full ∷ []
