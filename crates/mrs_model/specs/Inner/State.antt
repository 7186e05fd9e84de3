-- What the search knows, as it goes.
use Rattle.std.specs.Prelude.{ℕ, List, ◌≡◌, ◌<◌, map, reverse, length, slice_index_or, false, true, Some, [], ◌∷◌, Bool}
use Rattle.mrs_model.specs.declared.search.Step.{Step}
use Rattle.mrs_model.specs.declared.search.Sides.{Sides}
use Rattle.mrs_model.specs.declared.search.Search.{Search}
use Rattle.std.specs.List.{slice_get}
use Rattle.mrs_model.specs.declared.bindings.Pair.{Pair}
use Rattle.mrs_model.specs.declared.keyed.Keyed.{Keyed}
use Rattle.mrs_model.specs.Meanings.{Meaning}
use Rattle.mrs_model.specs.Views.{variable_of}
use Rattle.mrs_model.specs.Valid.{IsPredication, IsConstraint}
use Rattle.mrs_model.specs.Inner.Elements.{Element, an_ep, an_hcon, an_icon}
use Rattle.mrs_model.specs.Inner.Items.{of_item}
use Rattle.mrs_model.specs.Inner.Search.{Task, IsLeast, Leads, IsAt, places, work_at}

abbrev pub element_of : Keyed → Element
element_of k = of_item k.item

abbrev pub elements_of : List Keyed → List Element
elements_of items = map element_of items

-- its variables are there
abbrev pub IsOfVars : ℕ → Element → Type 0
IsOfVars vars (an_ep e) = IsPredication vars e
IsOfVars vars (an_hcon c) = IsConstraint vars c
IsOfVars vars (an_icon c) = IsConstraint vars c

abbrev pub given_of : Sides → List Pair
given_of s = s.top ∷ s.index ∷ []

abbrev pub task_of : Sides → Task
task_of s = record {
  left = elements_of s.left.now;
  right = elements_of s.right.now;
  vars = map variable_of s.vars.left.now;
  other_vars = map variable_of s.vars.right.now;
  given = given_of s;
}

-- the elements of both sides are of their variables, of which there are as many
pub record AreSides (s : Sides) : Type 0 where
  pub left : (k : ℕ) (x : Keyed) → slice_get s.left.now k ≡ Some x → IsOfVars (length s.vars.left.now) (element_of x)
  pub right : (k : ℕ) (x : Keyed) → slice_get s.right.now k ≡ Some x → IsOfVars (length s.vars.left.now) (element_of x)
  pub even : length s.vars.right.now ≡ length s.vars.left.now

-- the places of the steps, the last one first
abbrev pub places_of : Search → List ℕ
places_of s = places (reverse s.steps.items)

-- What the search knows where the places before `next` are refused: its steps, the last one first, lead to its pairs, and a place is used
-- exactly where a step has it.
pub record Knows (t : Task) (steps : List Step) (used : List Bool) (pairs : List Pair) (size next : ℕ) : Type 0 where
  pub leads : Leads t steps pairs
  pub least : IsLeast t (next ∷ places steps)
  pub even : length used ≡ length t.right
  pub has : (c : ℕ) → c < length t.right → slice_index_or used c false ≡ true → (k : ℕ) × IsAt (places steps) k c
  pub has_not : (c k : ℕ) → c < length t.right → slice_index_or used c false ≡ false → IsAt (places steps) k c → ⊥
  pub size_is : size ≡ length t.vars

abbrev pub IsSearching : Task → Search → ℕ → Type 0
IsSearching t s next = Knows t (reverse s.steps.items) s.used.items s.bound.pairs s.bound.size next

-- the work that is left
abbrev pub work_of : Task → Search → ℕ → ℕ
work_of t s next = work_at (length t.right) (length t.left) next (places_of s)

-- as many variables and elements of each kind
pub record HaveSameCounts (a b : Meaning) : Type 0 where
  pub vars : length b.vars ≡ length a.vars
  pub eps : length b.eps ≡ length a.eps
  pub hcons : length b.hcons ≡ length a.hcons
  pub icons : length b.icons ≡ length a.icons
