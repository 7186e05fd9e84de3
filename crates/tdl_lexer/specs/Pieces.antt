-- The tokens and what is passed over between them, each with what must follow it (DELPH-IN TDL).
use Rattle.std.specs.Prelude.{◌≡◌, ℕ, ◌≤◌, Bool, true, false, not, ◌==◌, List, [], ◌∷◌, ◌++◌, length, Option, Some, None, codes}
use Rattle.std.specs.Char.{is_whitespace}
use Rattle.tdl_lexer.specs.declared.TokenKind.{TokenKind}
use Rattle.tdl_lexer.specs.declared.TokenKind.TheVariants.{Name, Text, Symbol, Coref, Directive, LetterSet, Prefix, Suffix, Group, Defined, Added, And, AvmOpens, AvmCloses, ListOpens, ListCloses, DiffOpens, DiffCloses, Comma, Dot, Dots}
use Rattle.tdl_lexer.specs.declared.Mode.{Mode}
use Rattle.tdl_lexer.specs.declared.Mode.TheVariants.{Plain, Near, Direct}
use Rattle.tdl_lexer.specs.Characters.{is_newline, StopsBefore, IsRun, IsName}

-- what stands between the quotes of a string
pub data IsQuoted : List ℕ → Type 0 where
  nothing : IsQuoted []
  plain : (c : ℕ) (cs : List ℕ) → (c == 34) ≡ false → (c == 92) ≡ false → IsQuoted cs → IsQuoted (c ∷ cs)
  escaped : (c : ℕ) (cs : List ℕ) → IsQuoted cs → IsQuoted (92 ∷ c ∷ cs)

-- the text up to the first place where mark stands
pub record IsUpTo (mark body : List ℕ) : Type 0 where
  pub first : (front back : List ℕ) → body ++ mark ≡ front ++ (mark ++ back) → back ≡ []

-- what stands between the parentheses of a group: parentheses match
pub data IsInside : List ℕ → Type 0 where
  empty : IsInside []
  other : (c : ℕ) (cs : List ℕ) → (c == 40) ≡ false → (c == 41) ≡ false → IsInside cs → IsInside (c ∷ cs)
  nested : (b cs : List ℕ) → IsInside b → IsInside cs → IsInside (40 ∷ (b ++ 41 ∷ cs))

-- the marks and their spellings
pub data Mark : TokenKind → List ℕ → Type 0 where
  defined : Mark Defined (codes ":=")
  below : Mark Defined (codes ":<")
  added : Mark Added (codes ":+")
  and : Mark And (codes "&")
  avm_opens : Mark AvmOpens (codes "[")
  avm_closes : Mark AvmCloses (codes "]")
  list_opens : Mark ListOpens (codes "<")
  list_closes : Mark ListCloses (codes ">")
  diff_opens : Mark DiffOpens (codes "<!")
  diff_closes : Mark DiffCloses (codes "!>")
  comma : Mark Comma (codes ",")
  dot : Mark Dot (codes ".")
  dots : Mark Dots (codes "...")

-- no longer mark fits where this one stands
abbrev pub IsLongest : List ℕ → List ℕ → Type 0
IsLongest spelled rest = (kind : TokenKind) (longer more : List ℕ) → Mark kind longer → spelled ++ rest ≡ longer ++ more → length longer ≤ length spelled

-- whether a group may stand here
abbrev pub takes_group : Mode → Bool
takes_group Plain = false
takes_group Near = true
takes_group Direct = true

-- where a group may stand after white space
abbrev pub after_blank : Mode → Mode
after_blank Plain = Plain
after_blank Near = Near
after_blank Direct = Plain

-- Where a group may stand after a group: one of a spelling rule may have others after it, a letter set has one.
abbrev pub after_group_here : Mode → Mode
after_group_here Plain = Plain
after_group_here Near = Near
after_group_here Direct = Plain

-- The text goes on with these characters, which are passed over or are a token of a kind, and then with the rest.
-- A group may stand before them and after them as the modes say.
pub data Piece : Mode → List ℕ → List ℕ → Option TokenKind → Mode → Type 0 where
  blank : (mode : Mode) (c : ℕ) (rest : List ℕ) → is_whitespace c ≡ true → Piece mode (c ∷ []) rest None (after_blank mode)
  line : (mode : Mode) (body rest : List ℕ) → IsRun (λ c. not (is_newline c)) body rest → Piece mode (59 ∷ body) rest None Plain
  block : (mode : Mode) (body rest : List ℕ) → IsUpTo (codes "|#") body → Piece mode (codes "#|" ++ (body ++ codes "|#")) rest None Plain
  docstring : (mode : Mode) (body rest : List ℕ) → IsUpTo (codes "\"\"\"") body → Piece mode (codes "\"\"\"" ++ (body ++ codes "\"\"\"")) rest None Plain
  text : (mode : Mode) (body rest : List ℕ) → IsQuoted body → (length body ≡ 0 → StopsBefore (λ c. c == 34) rest) → Piece mode (34 ∷ (body ++ 34 ∷ [])) rest (Some Text) Plain
  name : (mode : Mode) (spelled rest : List ℕ) → IsName spelled rest → Piece mode spelled rest (Some Name) Plain
  symbol : (mode : Mode) (spelled rest : List ℕ) → IsName spelled rest → Piece mode (39 ∷ spelled) rest (Some Symbol) Plain
  coref : (mode : Mode) (spelled rest : List ℕ) → IsName spelled rest → Piece mode (35 ∷ spelled) rest (Some Coref) Plain
  directive : (mode : Mode) (spelled rest : List ℕ) → IsName spelled rest → StopsBefore (λ c. c == 43) spelled → Piece mode (58 ∷ spelled) rest (Some Directive) Plain
  letter_set : (mode : Mode) (rest : List ℕ) → Piece mode (codes "%") (40 ∷ rest) (Some LetterSet) Direct
  prefix : (mode : Mode) (rest : List ℕ) → Piece mode (codes "%prefix") rest (Some Prefix) Near
  suffix : (mode : Mode) (rest : List ℕ) → Piece mode (codes "%suffix") rest (Some Suffix) Near
  group : (mode : Mode) (body rest : List ℕ) → takes_group mode ≡ true → IsInside body → Piece mode (40 ∷ (body ++ 41 ∷ [])) rest (Some Group) (after_group_here mode)
  mark : (mode : Mode) (kind : TokenKind) (spelled rest : List ℕ) → Mark kind spelled → IsLongest spelled rest → Piece mode spelled rest (Some kind) Plain

-- nothing begins the text
abbrev pub NoPiece : Mode → List ℕ → Type 0
NoPiece mode cs = (spelled rest : List ℕ) (what : Option TokenKind) (next : Mode) → cs ≡ spelled ++ rest → Piece mode spelled rest what next → ⊥
