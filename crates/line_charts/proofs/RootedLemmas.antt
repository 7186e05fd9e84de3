-- A root and an abstract structure together. What parts owe enters into no answer, so this is as for full structures.
use Rattle.std.proofs.Common.{ℕ, ◌≡◌, ◌<◌, Bool, Some, List, [], ◌∷◌, length, refl, subst, arith}
use Rattle.std.specs.Prelude.{◌↔◌, IsTrue}
use Rattle.fs_model.specs.Claims.{Has, here, there}
use Rattle.fs_model.specs.Closure.{IsConsistent}
use Rattle.fs_model.specs.Sources.{Told}
use Rattle.fs_graph.specs.GraphMap.{GraphMap}
use Rattle.fs_unify.specs.Rules.{system_of}
use Rattle.fs_unify.specs.Owing.{OwedRules, owes_all, owes_nothing}
use Rattle.fs_unify.specs.Placing.{PlacedGraph, IsPlacedIn, source_of}
use Rattle.book_signs.specs.Conditions.{IsClosed}
use Rattle.book_signs.specs.Signed.{facts_of}
use Rattle.book_signs.specs.Trees.{SignTree, signs_of, facts_at}
use Rattle.rule_trees.specs.Mothers.{graph_view, IsShortIn}
use Rattle.rule_trees.specs.Inner.Placed.{placed_both}
use Rattle.rule_trees.specs.Inner.Rooting.{IsRootedBy}
use Rattle.rule_trees.proofs.MakingLemmas.{closed_part}
use Rattle.rule_trees.proofs.RootLemmas.{rooted_here}

-- a root with a structure that owes all
abbrev pub placed_open : GraphMap → GraphMap → List PlacedGraph
placed_open root graph = record { place = []; graph = root; owes = owes_nothing } ∷ record { place = []; graph = graph; owes = owes_all } ∷ []

-- both are in range
pub open_in : (t : SignTree) (root graph : GraphMap) → IsClosed t.book.system root → IsShortIn t graph → (p : PlacedGraph) → Has p (placed_open root graph) → IsPlacedIn t.book.system p
open_in t root graph is short p (here) = closed_part t.book.system root is
open_in t root graph is short p (there here) = record { place_in = λ i d l. absurd (omega (arith, l)); graph_in = short.graph_in; owed_in = tt }
open_in t root graph is short p (there (there h)) = elim h [ ]

abbrev no_rules : OwedRules
no_rules = record { at_root = []; further = []; root_debts = []; further_debts = [] }

pub rooted_open : (t : SignTree) (place : ℕ) (root graph : GraphMap) (parts : List PlacedGraph) (good : Bool) → place < length (signs_of t).instances → facts_at (signs_of t) place ≡ Some (facts_of t.book.system root) → IsShortIn t root → IsShortIn t graph →
    parts ≡ placed_open root graph → IsTrue good ↔ IsConsistent (system_of t.book.system) (Told (source_of parts)) → IsTrue good ↔ IsRootedBy (signs_of t) (graph_view t graph) place
rooted_open t place root graph parts good lt facts own short are h =
    rooted_here t no_rules place root graph (placed_both no_rules root graph) good lt facts own short refl
    (subst (λ (ps : List PlacedGraph). IsTrue good ↔ IsConsistent (system_of t.book.system) (Told (source_of ps))) are h)
