-- A walk over a tree with a stack of its own; only private clauses cite it.
use Rattle.std.specs.Prelude.{ℕ, ◌≡◌, ◌<◌, ◌≤◌, ◌+◌, All, List, [], ◌∷◌, Some, map, take, drop, length, slice_get}
use Rattle.std.specs.List.{sum_by}
use Rattle.derivation.specs.Trees.{Derivation, phrase}
use Rattle.derivation.specs.Views.{derivation_of, in_order}
use Rattle.derivation.proofs.Weights.{weights}
use Rattle.tree_model.specs.Structures.{Structure}
use Rattle.tree_model.specs.Signs.{Signs}
use Rattle.tree_model.specs.Trees.{Full, Fulls}
use Rattle.book_signs.specs.Trees.{SignTree, signs_of}
use Rattle.tree_structures.specs.declared.memo.FullMemo.{FullMemo}
use Rattle.tree_structures.specs.declared.opened.Opened.{Opened}
use Rattle.tree_structures.specs.declared.opened.Next.{Next}
use Rattle.tree_structures.specs.declared.opened.Walk.{Walk}
use Rattle.tree_structures.specs.declared.opened.Walk.TheVariants.{On, Done, Stuck}
use Rattle.tree_structures.specs.declared.opened.Next.TheVariants.{Down, Leaf, Made, Never}
use Rattle.tree_structures.specs.Known.{AreAt, kept, numbers_of}
use Rattle.tree_structures.specs.Inner.Stays.{IsNumbered}

abbrev pub daughters_in : Opened → List Derivation
daughters_in o = map derivation_of o.daughters.now

-- the phrase that is open
abbrev pub open_tree : Opened → Derivation
open_tree o = phrase o.rule (in_order (daughters_in o))

-- the daughter that comes next
abbrev pub IsNext : Opened → Derivation → Type 0
IsNext o d = slice_get (daughters_in o) o.known.count ≡ Some d

-- the known structures are those of the first daughters
pub record IsBegun (g : Signs) (structures : List Structure) (o : Opened) : Type 0 where
  pub within : o.known.count ≤ length o.daughters.now
  pub fulls : List Structure
  pub at : AreAt structures (numbers_of o.known) fulls
  pub full : Fulls g (in_order (take o.known.count (daughters_in o))) fulls

-- each phrase is the next daughter of the one before it, from the whole tree on down to the last one
abbrev pub IsBelow : Derivation → List Opened → Opened → Type 0
IsBelow whole [] last = whole ≡ open_tree last
IsBelow whole (o ∷ os) last = (d : Derivation) × (whole ≡ open_tree o) × IsNext o d × IsBelow d os last

-- what comes next in an open phrase: a phrase that is its next daughter, the structure of a lexical tree that is, its own
-- structure; or it has none
abbrev pub Follows : SignTree → FullMemo → Opened → Next → Type 0
Follows t memo o (Down new) = IsNext o (open_tree new) × (new.known.count ≡ 0)
Follows t memo o (Leaf n) = (d : Derivation) × IsNext o d × IsNumbered t memo (Full (signs_of t) d) (Some n)
Follows t memo o (Made n) = (o.known.count ≡ length o.daughters.now) × IsNumbered t memo (Full (signs_of t) (open_tree o)) (Some n)
Follows t memo o Never = (f : Structure) → Full (signs_of t) (open_tree o) f → ⊥

-- a walk over the whole tree: phrases wait, and one is looked at
pub record IsWalking (t : SignTree) (memo : FullMemo) (whole : Derivation) (waiting : List Opened) (here : Opened) : Type 0 where
  pub below : IsBelow whole waiting here
  pub waits : All (IsBegun (signs_of t) (kept t memo.known.items)) waiting
  pub begun : IsBegun (signs_of t) (kept t memo.known.items) here

-- how far the walk still goes
abbrev pub rest_of : ℕ → Opened → ℕ
rest_of k o = weights (in_order (drop k (daughters_in o)))

abbrev pub left_in : Opened → ℕ
left_in o = rest_of o.known.count o + 1

abbrev pub left_above : Opened → ℕ
left_above o = rest_of (o.known.count + 1) o + 1

abbrev pub left_of : List Opened → Opened → ℕ
left_of os o = sum_by left_above os + left_in o

-- it goes on with less left than so much, or ends with the structure of the whole tree, or there is none
abbrev pub WalksOn : SignTree → FullMemo → Derivation → List Opened → ℕ → Walk → Type 0
WalksOn t memo whole waiting left (On here) = IsWalking t memo whole waiting here × (left_of waiting here < left)
WalksOn t memo whole waiting left (Done n) = IsNumbered t memo (Full (signs_of t) whole) (Some n)
WalksOn t memo whole waiting left Stuck = (f : Structure) → Full (signs_of t) whole f → ⊥
