-- What a file's tokens say, or their first fault from the left, by the grammar of files (DELPH-IN TDL).
use Rattle.std.specs.Prelude.{◌≡◌, ℕ, ◌-◌, ◌≤◌, Bool, true, false, List, [], ◌∷◌, ◌++◌, length, Option}
use Rattle.std.specs.List.{count_by}
use Rattle.tdl_lexer.specs.declared.TokenKind.{TokenKind}
use Rattle.tdl_lexer.specs.declared.TokenKind.TheVariants.{Name, LetterSet, Group, Defined, AvmOpens, AvmCloses, ListOpens, ListCloses, DiffOpens, DiffCloses}
use Rattle.tdl_reader.specs.declared.ReadFault.{ReadFault}
use Rattle.tdl_reader.specs.declared.ReadFault.TheVariants.{Unexpected, EndOfFile, TooDeep, BadAffix}
use Rattle.tdl_reader.specs.Grammar.{SpellsAffix, SpellsFile}
use Rattle.tdl_reader.specs.Groups.{IsGroup, IsLetterSet}
use Rattle.tdl_reader.specs.Toks.{Tok, IsKind}
use Rattle.tdl_reader.specs.Trees.{SetTree, GroupTree, AffixTree, StatementTree, letters}

-- some tokens lead from these to a whole file
pub record Viable (front : List Tok) : Type 0 where
  pub rest : List Tok
  pub statements : List StatementTree
  pub spelled : SpellsFile [] (front ++ rest) statements

-- the kinds of tokens that open a bracket, and those that close one
abbrev pub opens : TokenKind → Bool
opens AvmOpens = true
opens ListOpens = true
opens DiffOpens = true
opens _ = false

abbrev pub closes : TokenKind → Bool
closes AvmCloses = true
closes ListCloses = true
closes DiffCloses = true
closes _ = false

-- how many brackets are open after these tokens
abbrev pub nesting : List Tok → ℕ
nesting ts = count_by (λ t. opens t.kind) ts - count_by (λ t. closes t.kind) ts

-- the letter sets that statements define, in order of writing
abbrev pub sets_of : List StatementTree → List SetTree
sets_of [] = []
sets_of (letters set at ∷ ss) = set ∷ sets_of ss
sets_of (_ ∷ ss) = sets_of ss

-- The group g after these tokens is out of form: that of a letter set, or one of a spelling rule, by the letter sets of the whole statements before it.
pub data IsMalformed (front : List Tok) (g : Tok) : Type 0 where
  in_letter_set : (before : List Tok) (ss : List StatementTree) (p : Tok) → front ≡ before ++ p ∷ [] → SpellsFile [] before ss → IsKind LetterSet p → ((s : SetTree) → IsLetterSet g.spelled s → ⊥) → IsMalformed front g
  in_rule : (before gs : List Tok) (ss : List StatementTree) (n d : Tok) (affix : Option AffixTree) → front ≡ before ++ n ∷ d ∷ gs → SpellsFile [] before ss → IsKind Name n → IsKind Defined d
      → SpellsAffix (sets_of ss) (gs ++ g ∷ []) affix → ((x : GroupTree) → IsGroup (sets_of ss) g.spelled x → ⊥) → IsMalformed front g

-- the fault of tokens that stands after this front of them
pub data Fault (ts front : List Tok) : ReadFault → Type 0 where
  -- no file goes on with the next token
  unexpected : (t : Tok) (rest : List Tok) → ts ≡ front ++ t ∷ rest → Viable front → (Viable (front ++ t ∷ []) → ⊥) → Fault ts front (Unexpected t.at)
  -- the tokens end inside a statement
  end_of_file : ts ≡ front → Viable front → ((ss : List StatementTree) → SpellsFile [] front ss → ⊥) → Fault ts front EndOfFile
  -- the next token opens a bracket where 200 are open
  too_deep : (t : Tok) (rest : List Tok) → ts ≡ front ++ t ∷ rest → Viable (front ++ t ∷ []) → opens t.kind ≡ true → nesting front ≡ 200 → Fault ts front (TooDeep t.at)
  -- the next token is a group out of form
  bad_affix : (t : Tok) (rest : List Tok) → ts ≡ front ++ t ∷ rest → Viable (front ++ t ∷ []) → IsKind Group t → IsMalformed front t → Fault ts front (BadAffix t.at)

-- the first fault from the left
pub record FirstFault (ts : List Tok) (fault : ReadFault) : Type 0 where
  pub front : List Tok
  pub stands : Fault ts front fault
  pub first : (other : List Tok) (f : ReadFault) → Fault ts other f → length front ≤ length other

-- the statements of tokens without a fault
pub record IsReading (ts : List Tok) (ss : List StatementTree) : Type 0 where
  pub spelled : SpellsFile [] ts ss
  pub faultless : (front : List Tok) (f : ReadFault) → Fault ts front f → ⊥
