-- A walk over a tree that makes the structures of its nodes, with a stack of its own; only private clauses cite it.
use Rattle.std.specs.Prelude.{ℕ, ◌≡◌, ◌<◌, ◌≤◌, ◌+◌, All, List, [], ◌∷◌, ◌++◌, Some, map, take, drop, length, replicate, slice_get}
use Rattle.std.specs.List.{sum_by}
use Rattle.derivation.specs.Trees.{Derivation, phrase}
use Rattle.derivation.specs.Views.{derivation_of, in_order}
use Rattle.derivation.proofs.Weights.{weights}
use Rattle.tree_model.specs.Trees.{Full, Fulls}
use Rattle.forest_unpack.specs.Parts.{AreParts}
use Rattle.book_signs.specs.Trees.{SignTree, signs_of}
use Rattle.tree_structures.specs.Known.{view_of}
use Rattle.tree_faults.specs.declared.building.Building.{Building}
use Rattle.tree_faults.specs.declared.building.Next.{Next}
use Rattle.tree_faults.specs.declared.building.Next.TheVariants.{Down, Below, Here}
use Rattle.tree_faults.specs.declared.building.Walk.{Walk}
use Rattle.tree_faults.specs.declared.building.Walk.TheVariants.{On, Done, Stuck}
use Rattle.tree_faults.specs.Nodes.{Place}
use Rattle.tree_faults.specs.Inner.Structures.{views_of, HasOrLacks, LacksAt}

abbrev pub daughters_in : Building → List Derivation
daughters_in o = map derivation_of o.daughters.now

-- the phrase that is open
abbrev pub open_tree : Building → Derivation
open_tree o = phrase o.rule (in_order (daughters_in o))

-- the daughter that comes next
abbrev pub IsNext : Building → Derivation → Type 0
IsNext o d = slice_get (daughters_in o) o.known.count ≡ Some d

-- the known structures are those of the first daughters
pub record IsBegun (t : SignTree) (o : Building) : Type 0 where
  pub parts : AreParts o.known
  pub within : o.known.count ≤ length o.daughters.now
  pub full : Fulls (signs_of t) (in_order (take o.known.count (daughters_in o))) (views_of t o.known)

-- each phrase is the next daughter of the one before it, from the whole tree on down to the last one
abbrev pub IsBelow : Derivation → List Building → Building → Type 0
IsBelow whole [] last = whole ≡ open_tree last
IsBelow whole (o ∷ os) last = (d : Derivation) × (whole ≡ open_tree o) × IsNext o d × IsBelow d os last

-- What comes next in an open phrase: a phrase that is its next daughter; or what becomes of the next daughter, a lexical tree, or of the phrase itself,
-- all of whose daughters have structures.
abbrev pub Follows : SignTree → Building → Next → Type 0
Follows t o (Down new) = IsNext o (open_tree new) × IsBegun t new × (new.known.count ≡ 0)
Follows t o (Below outcome) = (d : Derivation) × IsNext o d × HasOrLacks t d outcome
Follows t o (Here outcome) = HasOrLacks t (open_tree o) outcome

-- a walk over the whole tree: phrases wait, and one is looked at
pub record IsWalking (t : SignTree) (whole : Derivation) (waiting : List Building) (here : Building) : Type 0 where
  pub below : IsBelow whole waiting here
  pub waits : All (IsBegun t) waiting
  pub begun : IsBegun t here

-- the place of the daughter that comes next in the last phrase that waits
abbrev pub place_below : List Building → Place
place_below waiting = map (λ o. o.known.count + 1) waiting

-- how far the walk still goes
abbrev pub rest_of : ℕ → Building → ℕ
rest_of k o = weights (in_order (drop k (daughters_in o)))

abbrev pub left_in : Building → ℕ
left_in o = rest_of o.known.count o + 1

abbrev pub left_above : Building → ℕ
left_above o = rest_of (o.known.count + 1) o + 1

abbrev pub left_of : List Building → Building → ℕ
left_of os o = sum_by left_above os + left_in o

-- the walk goes on nearer to its end, or it ends
abbrev pub WalksOn : SignTree → Derivation → List Building → ℕ → Walk → Type 0
WalksOn t whole waiting left (On here) = IsWalking t whole waiting here × (left_of waiting here < left)
WalksOn t whole waiting left (Done full) = Full (signs_of t) whole (view_of t full)
WalksOn t whole waiting left (Stuck lack) = LacksAt t whole (place_below waiting ++ replicate lack.depth 1) lack
