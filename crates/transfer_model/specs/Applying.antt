-- What the application of a rule makes of an MRS.
use Rattle.std.specs.Prelude.{ℕ, suc, zero, ◌≡◌, ◌<◌, ◌≤◌, ◌+◌, ◌↔◌, Bool, false, ◌==◌, ◌||◌, if◌then◌else◌, List, [], ◌∷◌, ◌++◌, length, map, take, drop, slice_index, All, Contains, Some}
use Rattle.std.specs.List.{slice_get, AllZip}
use Rattle.mrs_model.specs.Meanings.{Variable, Predication, Meaning}
use Rattle.mrs_model.specs.Renaming.{renamed_argument, renamed_constraint, renamed_ep}
use Rattle.mrs_model.specs.Valid.{Stands, IsVariable, IsPredication, IsConstraint, IsValid}
use Rattle.transfer_model.specs.Rules.{Rule}
use Rattle.transfer_model.specs.Sites.{Site}

-- the places of the elementary predications that are removed: those of INPUT
abbrev pub removed : Rule → Site → List ℕ
removed r s = take (length r.input) s.places

abbrev pub has : List ℕ → ℕ → Bool
has [] k = false
has (n ∷ ns) k = n == k || has ns k

-- those that aren't removed, where the first of them has this number
abbrev pub left_of : List ℕ → ℕ → List Predication → List Predication
left_of gone k [] = []
left_of gone k (e ∷ es) = if has gone k then left_of gone (k + 1) es else e ∷ left_of gone (k + 1) es

-- so many numbers from n on
abbrev pub numbers : ℕ → ℕ → List ℕ
numbers n zero = []
numbers n (suc count) = n ∷ numbers (n + 1) count

-- the variables of OUTPUT's coreferences: new ones stand behind those of the MRS
abbrev pub variables_at : Meaning → Rule → Site → List ℕ
variables_at m r s = s.vars ++ numbers (length m.vars) (length r.output_letters)

-- a variable without properties
abbrev pub new_variable : List ℕ → Variable
new_variable letters = record { sort = letters; props = [] }

-- the removed ones are gone, and these stand in the place of the one that came first, at this number
abbrev pub replaced : List ℕ → ℕ → List Predication → List Predication → List Predication
replaced gone first new es = take first es ++ (new ++ left_of gone first (drop first es))

-- OUTPUT stands in the place of the removed one that came first, at this number; what else there is stays.
abbrev pub rewritten : Meaning → Rule → Site → ℕ → Meaning
rewritten m r s first = record m {
  vars = m.vars ++ map new_variable r.output_letters;
  eps = replaced (removed r s) first (map (renamed_ep (variables_at m r s)) r.output) m.eps;
}

-- an elementary predication with other numbers of its variables, and its span
abbrev pub renumbered : List ℕ → Predication → Predication
renumbered to e = record { pred = e.pred; label = slice_index to e.label; args = map (renamed_argument to) e.args; span = e.span }

-- An MRS whose variables may stand nowhere: all else that a valid one has.
pub record IsShaped (m : Meaning) : Type 0 where
  pub top : m.top < length m.vars
  pub index : m.index < length m.vars
  pub vars : All IsVariable m.vars
  pub eps : All (IsPredication (length m.vars)) m.eps
  pub hcons : All (IsConstraint (length m.vars)) m.hcons
  pub icons : All (IsConstraint (length m.vars)) m.icons

-- The second is the first without the variables that stand nowhere. `kept` has the numbers in the first of those that are left, in their order.
pub record IsTrimmed (a b : Meaning) (kept : List ℕ) : Type 0 where
  pub rises : (i j : ℕ) → i < j → j < length kept → slice_index kept i < slice_index kept j
  pub standing : (v : ℕ) → Contains kept v ↔ (v < length a.vars × Stands a v)
  pub vars : AllZip (λ v x. slice_get a.vars v ≡ Some x) kept b.vars
  pub top : slice_index kept b.top ≡ a.top
  pub index : slice_index kept b.index ≡ a.index
  pub eps : map (renumbered kept) b.eps ≡ a.eps
  pub hcons : map (renamed_constraint kept) b.hcons ≡ a.hcons
  pub icons : map (renamed_constraint kept) b.icons ≡ a.icons
  pub valid : IsValid b

-- The rule is applied at the site.
pub record IsApplied (m : Meaning) (r : Rule) (s : Site) (next : Meaning) : Type 0 where
  pub first : ℕ
  pub is_removed : Contains (removed r s) first
  pub comes_first : All (λ p. first ≤ p) (removed r s)
  pub kept : List ℕ
  pub trimmed : IsTrimmed (rewritten m r s first) next kept
