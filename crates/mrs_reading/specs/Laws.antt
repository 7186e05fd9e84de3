-- When two MRSs are one but for the numbers of their variables.
use Rattle.std.specs.Prelude.{ℕ, ◌≡◌, List, map, slice_index}
use Rattle.mrs_model.specs.Meanings.{Predication, Meaning}
use Rattle.mrs_model.specs.Renaming.{IsVariableMap, renamed_argument, renamed_constraint}

-- an elementary predication with other numbers, and with its span
abbrev pub renumbered : List ℕ → Predication → Predication
renumbered to e = record { pred = e.pred; label = slice_index to e.label; args = map (renamed_argument to) e.args; span = e.span }

-- The one is the other with other numbers of the variables, each list in its order, and each elementary predication with its span.
pub record IsRenumbering (a b : Meaning) (to : List ℕ) : Type 0 where
  pub vars : IsVariableMap a.vars b.vars to
  pub top : slice_index to a.top ≡ b.top
  pub index : slice_index to a.index ≡ b.index
  pub eps : map (renumbered to) a.eps ≡ b.eps
  pub hcons : map (renamed_constraint to) a.hcons ≡ b.hcons
  pub icons : map (renamed_constraint to) a.icons ≡ b.icons
