-- Where characters are first out of the grammar of SimpleMRS or break one of its conditions.
use Rattle.std.specs.Prelude.{ℕ, ◌≡◌, ◌≤◌, List, [], ◌∷◌, ◌++◌, length}
use Rattle.mrs_spelling.specs.Reading.{Tok, Outcome, done, Reads}
use Rattle.mrs_spelling.specs.Grammar.{mrs}
use Rattle.mrs_spelling.specs.Conditions.{Breaks}

-- the characters are a text of the grammar with these tokens
pub record Spells (cs : List ℕ) (es : List Tok) : Type 0 where
  pub reads : Reads mrs [] cs es done cs []

-- some characters lead from these to a text of the grammar
pub record Viable (front : List ℕ) : Type 0 where
  pub rest : List ℕ
  pub toks : List Tok
  pub spelled : Spells (front ++ rest) toks

-- the fault of characters that stands after this front of them
pub data Fault (cs front : List ℕ) : Type 0 where
  -- no text of the grammar goes on with the next character
  unexpected : (c : ℕ) (rest : List ℕ) → cs ≡ front ++ c ∷ rest → Viable front → (Viable (front ++ c ∷ []) → ⊥) → Fault cs front
  -- they end before a text of the grammar does
  ends : cs ≡ front → Viable front → ((es : List Tok) → Spells cs es → ⊥) → Fault cs front
  -- a token of those that the grammar reads off the characters breaks a condition
  breaks : (before after : List Tok) (e : Tok) (o : Outcome) (d rest : List ℕ) → Reads mrs [] cs (before ++ e ∷ after) o d rest → Breaks before e → e.at ≡ front → Fault cs front

-- the first fault from the left
pub record FirstFault (cs front : List ℕ) : Type 0 where
  pub stands : Fault cs front
  pub first : (other : List ℕ) → Fault cs other → length front ≤ length other
