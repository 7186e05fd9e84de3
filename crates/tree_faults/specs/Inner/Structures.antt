-- The structures of nodes, or why they have none; only private clauses cite it.
use Rattle.std.specs.Prelude.{ℕ, ◌≡◌, ◌<◌, All, List, [], ◌∷◌, Some, length, map, replicate}
use Rattle.type_hierarchy.specs.Table.{count_of}
use Rattle.fs_model.specs.Claims.{Path}
use Rattle.fs_graph.specs.GraphMap.{GraphMap}
use Rattle.fs_graph.specs.Facts.{path_of}
use Rattle.fs_unify.specs.Rules.{Grammar}
use Rattle.derivation.specs.Trees.{Derivation}
use Rattle.tree_model.specs.Structures.{Structure}
use Rattle.tree_model.specs.Mothers.{Rule, Parts}
use Rattle.tree_model.specs.Trees.{Full}
use Rattle.forest_unpack.specs.declared.fulls.FullParts.{FullParts}
use Rattle.forest_unpack.specs.Parts.{parts_of}
use Rattle.book_signs.specs.Trees.{SignTree, signs_of, rule_at}
use Rattle.rule_trees.specs.Fulls.{FullTree}
use Rattle.rule_trees.specs.Mothers.{view_in, IsMother}
use Rattle.tree_structures.specs.Known.{view_of}
use Rattle.forced_types.specs.declared.placed.PlacedGraph.{PlacedGraph}
use Rattle.forced_types.specs.Verdicts.{Verdict, Fits, Clash, TooLong, IsVerdict}
use Rattle.forced_types.specs.Views.{verdict_of}
use Rattle.tree_faults.specs.declared.making.Lack.{Lack}
use Rattle.tree_faults.specs.declared.making.Outcome.{Outcome}
use Rattle.tree_faults.specs.declared.making.Outcome.TheVariants as outcomes
use Rattle.tree_faults.specs.Nodes.{Place}
use Rattle.tree_faults.specs.Explained.{Explained, Licensed, Clashes, GoesTooFar, IsFirstWithout}

-- the structures of daughters, from the left
abbrev pub views_of : SignTree → FullParts FullTree → List Structure
views_of t known = map (λ (f : FullTree). view_in t f.graph) (parts_of known)

-- a graph at a place
abbrev pub placed_of : PlacedGraph → Path × GraphMap
placed_of p = (path_of p.at.now, p.graph.now)

abbrev pub pairs_at : List Path → List GraphMap → List (Path × GraphMap)
pairs_at [] graphs = []
pairs_at (p ∷ ps) [] = []
pairs_at (p ∷ ps) (g ∷ graphs) = (p, g) ∷ pairs_at ps graphs

-- a rule's structure at the root, and graphs at its places
abbrev pub placed_with : GraphMap → List Path → List GraphMap → List (Path × GraphMap)
placed_with structure places graphs = ([], structure) ∷ pairs_at places graphs

-- the verdict on the rule at a place with these structures of its daughters
abbrev pub IsForcedAt : SignTree → ℕ → List Structure → Verdict → Type 0
IsForcedAt t place fs v = (rule : Rule) → rule_at (signs_of t) place ≡ Some rule → IsVerdict (signs_of t).system (Parts (signs_of t).paths rule fs) v

-- the types and features of a verdict are those of a grammar
abbrev pub IsNamedVerdict : Grammar → Verdict → Type 0
IsNamedVerdict g Fits = Unit {0}
IsNamedVerdict g (Clash p t u) = All (λ f. f < length g.introducers) p × (t < count_of g.types) × (u < count_of g.types)
IsNamedVerdict g (TooLong p) = All (λ f. f < length g.introducers) p

-- a verdict that tells why not
pub record IsRefusal (g : Grammar) (v : Verdict) : Type 0 where
  pub named : IsNamedVerdict g v
  pub unfit : v ≡ Fits → ⊥

-- the rule at a place makes nothing of these structures, and this is why
pub record IsRefused (t : SignTree) (place : ℕ) (fs : List Structure) (v : Verdict) : Type 0 where
  pub never : (f : Structure) → IsMother (signs_of t) place fs f → ⊥
  pub forced : IsForcedAt t place fs v
  pub refusal : IsRefusal t.book.system v

-- what the rule at a place makes of structures, or why it makes nothing
abbrev pub IsMadeAt : SignTree → ℕ → List Structure → Outcome → Type 0
IsMadeAt t place fs (outcomes.Full full) = IsMother (signs_of t) place fs (view_of t full)
IsMadeAt t place fs (outcomes.Lacking lack) = (lack.depth ≡ 0) × (lack.instance ≡ place) × IsRefused t place fs (verdict_of lack.verdict)

-- the first node of a tree without a structure, at a place
pub record LacksAt (t : SignTree) (tree : Derivation) (place : Place) (lack : Lack) : Type 0 where
  pub first : IsFirstWithout (signs_of t) tree place lack.instance (verdict_of lack.verdict)
  pub refusal : IsRefusal t.book.system (verdict_of lack.verdict)

-- the structure of a tree, or its first node without one
abbrev pub HasOrLacks : SignTree → Derivation → Outcome → Type 0
HasOrLacks t tree (outcomes.Full full) = Full (signs_of t) tree (view_of t full)
HasOrLacks t tree (outcomes.Lacking lack) = LacksAt t tree (replicate lack.depth 1) lack

-- what a verdict tells of a node
abbrev pub told_by : Place → ℕ → Verdict → Explained
told_by place instance Fits = Licensed
told_by place instance (Clash p t u) = Clashes place instance p t u
told_by place instance (TooLong p) = GoesTooFar place instance p
