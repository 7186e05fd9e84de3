-- What holds of what was read of an MRS.
use Rattle.std.specs.Prelude.{ℕ, ◌≡◌, ◌++◌, ◌∷◌, List, map}
use Rattle.std.specs.Str.{str_to_ascii_lowercase}
use Rattle.mrs_spelling.specs.declared.tokens.Token.{Token}
use Rattle.mrs_spelling.specs.declared.kinds.Kind.{Kind}
use Rattle.mrs_spelling.specs.Conditions.{Word, context, given, AllKeep, BreaksAfter}
use Rattle.mrs_reading.specs.declared.building.Refusal.{Refusal}
use Rattle.mrs_reading.specs.declared.building.Refusal.TheVariants.{Breaks, NoMemory}
use Rattle.mrs_reading.specs.declared.building.Building.{Building}
use Rattle.mrs_reading.specs.declared.eps.Eps.{Eps}
use Rattle.mrs_reading.specs.Inner.Tables.{IsTableOf}

-- a token as the conditions see it
abbrev pub word_at : Token → Word
word_at t = record { kind = t.kind; text = str_to_ascii_lowercase t.text.now }

abbrev pub kinds : List Token → List Kind
kinds ts = map (λ t. t.kind) ts

-- the names of the roles since the last predicate
abbrev pub roles_in : Eps → List (List ℕ)
roles_in e = map (λ r. str_to_ascii_lowercase r.now) e.roles.items

-- these tokens were read
pub record IsBuilt (ws : List Word) (b : Building) : Type 0 where
  pub table : IsTableOf (context ws) (given ws) b.table
  pub roles : (context ws).roles ≡ roles_in b.eps

-- the first token that breaks a condition has so many bytes left
pub record IsBreach (ts : List Token) (left : ℕ) : Type 0 where
  pub before : List Token
  pub token : Token
  pub after : List Token
  pub split : ts ≡ before ++ token ∷ after
  pub left_is : left ≡ token.left
  pub keeps : AllKeep (map word_at before)
  pub breaks : BreaksAfter (map word_at before) (word_at token)

abbrev pub IsRefusal : List Token → Refusal → Type 0
IsRefusal ts (Breaks left) = IsBreach ts left
IsRefusal ts NoMemory = Unit {0}
