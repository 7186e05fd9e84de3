-- What holds of what was read of variables, top, index and constraints.
use Rattle.std.specs.Prelude.{ℕ, ◌≡◌, ◌⊎◌, ◌↔◌, ◌++◌, Bool, true, false, List, map, length, Some, Contains, IfSome}
use Rattle.std.specs.List.{slice_get, AllZip}
use Rattle.std.specs.String.{string_bytes}
use Rattle.mrs_model.specs.declared.Mrs.{Mrs}
use Rattle.mrs_model.specs.Meanings.{Constraint, Variable, Meaning}
use Rattle.mrs_spelling.specs.Conditions.{given}
use Rattle.mrs_model.specs.Views.{hcon_of, icon_of}
use Rattle.mrs_spelling.specs.declared.tokens.Token.{Token}
use Rattle.mrs_spelling.specs.declared.kinds.Kind.{Kind}
use Rattle.mrs_reading.specs.declared.building.Building.{Building}
use Rattle.mrs_reading.specs.declared.constraints.Hcons.{Hcons}
use Rattle.mrs_reading.specs.declared.constraints.Icons.{Icons}
use Rattle.mrs_reading.specs.Meaning.{Piece, low, as_word, IsVariableOf, Is, IsMark, IsWritten, is_variable, is_top, is_index, after_all, ends_after, no_ends, links, IsConstraintOf, is_high, is_handle_rel, is_low, is_left, is_variable_rel, is_right, predications, IsPredicationOf}
use Rattle.mrs_reading.specs.Inner.Tables.{keys_in}
use Rattle.mrs_reading.specs.Inner.Stages.{Stage, begun, stage_after, kinds_in}
use Rattle.mrs_reading.specs.Inner.Predications.{AreEps}

abbrev pub piece_at : Token → Piece
piece_at t = record { kind = t.kind; text = t.text.now }

-- variables may have come to the end, that of the token if it is one
pub record Grows (keys new : List (List ℕ)) (p : Piece) (last : ℕ) : Type 0 where
  pub more : List (List ℕ)
  pub is : new ≡ keys ++ more
  pub here : is_variable p.kind ≡ true → slice_get new last ≡ Some (low p)
  pub from : (k : List ℕ) → Contains new k → Contains keys k ⊎ ((is_variable p.kind ≡ true) × (low p ≡ k))

-- the constraints so far, with the first variable and the relation that were read last
pub record IsLinked (first rel second : Kind → Bool) (keys : List (List ℕ)) (ps : List Piece) (left : ℕ) (relation : List ℕ) (cs : List Constraint) : Type 0 where
  pub done : AllZip (IsConstraintOf keys) (links first rel second ps) cs
  pub seen : IfSome (after_all (ends_after first rel) no_ends ps).first (λ f. Is keys f left)
  pub said : relation ≡ (after_all (ends_after first rel) no_ends ps).rel

abbrev pub AreHcons : List (List ℕ) → List Piece → Hcons → Type 0
AreHcons keys ps h = IsLinked is_high is_handle_rel is_low keys ps h.high (string_bytes h.rel) (map hcon_of h.list.items)

abbrev pub AreIcons : List (List ℕ) → List Piece → Icons → Type 0
AreIcons keys ps h = IsLinked is_left is_variable_rel is_right keys ps h.left (string_bytes h.rel) (map icon_of h.list.items)

-- the variable is marked by a token of the kind, once there is one
pub data IsMarked (kind : Kind → Bool) (keys : List (List ℕ)) (ps : List Piece) (n : ℕ) : Type 0 where
  unmarked : ((q : Piece) → Contains ps q → kind q.kind ≡ false) → IsMarked kind keys ps n
  marked : IsMark kind keys ps n → IsMarked kind keys ps n

pub record IsRead (ps : List Piece) (b : Building) : Type 0 where
  pub all : (k : List ℕ) → Contains (keys_in b.table) k ↔ IsWritten ps k
  pub top : IsMarked is_top (keys_in b.table) ps b.top
  pub index : IsMarked is_index (keys_in b.table) ps b.index
  pub hcons : AreHcons (keys_in b.table) ps b.hcons
  pub icons : AreIcons (keys_in b.table) ps b.icons
  pub stage : Stage
  pub at : stage_after (Some begun) (kinds_in ps) ≡ Some stage
  pub eps : AreEps (keys_in b.table) ps stage b.eps

-- the same of an MRS
pub record IsNearly (ps : List Piece) (m : Meaning) : Type 0 where
  pub keys : List (List ℕ)
  pub distinct : (i j : ℕ) (k : List ℕ) → slice_get keys i ≡ Some k → slice_get keys j ≡ Some k → i ≡ j
  pub all : (k : List ℕ) → Contains keys k ↔ IsWritten ps k
  pub even : length m.vars ≡ length keys
  pub vars : (n : ℕ) (k : List ℕ) (v : Variable) → slice_get keys n ≡ Some k → slice_get m.vars n ≡ Some v → IsVariableOf (given (map as_word ps)) k v
  pub top : IsMarked is_top keys ps m.top
  pub index : IsMarked is_index keys ps m.index
  pub eps : AllZip (IsPredicationOf keys) (predications ps) m.eps
  pub hcons : AllZip (IsConstraintOf keys) (links is_high is_handle_rel is_low ps) m.hcons
  pub icons : AllZip (IsConstraintOf keys) (links is_left is_variable_rel is_right ps) m.icons

pub record IsFinished (b : Building) (m : Mrs) : Type 0 where
  pub vars : m.vars.items ≡ b.table.vars.items
  pub top : m.top ≡ b.top
  pub index : m.index ≡ b.index
  pub eps : m.eps.items ≡ b.eps.list.items
  pub hcons : m.hcons.items ≡ b.hcons.list.items
  pub icons : m.icons.items ≡ b.icons.list.items
