-- Spelling rules and the irregular table, as plain data (DELPH-IN TDL). Everything is folded.
use Rattle.std.specs.Prelude.{ℕ, ◌≡◌, Bool, List, [], ◌∷◌}
use Rattle.lexicon.specs.Words.{Word, Has, Each}

-- a sign of a pattern: a letter that stands for itself, or a variable by its name, with the members of its letter set
pub data SignTree : Type 0 where
  letter : ℕ → SignTree
  variable : ℕ → List ℕ → SignTree

-- a group `(p r)`: the pattern, and what stands in its place
pub record GroupTree : Type 0 where
  pub pattern : List SignTree
  pub with : List SignTree

-- a rule's groups in order of writing, at the end of a stem or at its beginning
pub record RuleTree : Type 0 where
  pub suffix : Bool
  pub groups : List GroupTree

-- a line of the irregular table
pub record LineTree : Type 0 where
  pub rule : ℕ
  pub stem : Word
  pub form : Word

-- the lexical rules by number, and the lines of the irregular table in order
pub record SpellingTree : Type 0 where
  pub rules : List RuleTree
  pub lines : List LineTree

-- Each variable of what stands in a pattern's place is one of the pattern, with the same members.
abbrev pub IsBound : GroupTree → Type 0
IsBound g = (name : ℕ) (members : List ℕ) → Has (variable name members) g.with → Has (variable name members) g.pattern

-- each group of each rule is so
abbrev pub AreBound : List RuleTree → Type 0
AreBound rules = Each (λ r. Each IsBound r.groups) rules
