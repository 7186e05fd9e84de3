-- How the bytes of a file are cut into tokens, up to the end or the first fault: a relation on whole texts.
use Rattle.std.specs.Prelude.{◌≡◌, ℕ, ◌+◌, ◌&&◌, ◌==◌, if◌then◌else◌, List, [], ◌∷◌, ◌++◌, Option, Some, None}
use Rattle.std.specs.Str.{chars, IsUtf8, IsValidUpTo}
use Rattle.tdl_lexer.specs.declared.TokenKind.{TokenKind}
use Rattle.tdl_lexer.specs.declared.Token.{Token}
use Rattle.tdl_lexer.specs.declared.Mode.{Mode}
use Rattle.tdl_lexer.specs.declared.Mode.TheVariants.{Plain}
use Rattle.tdl_lexer.specs.declared.LexFault.{LexFault}
use Rattle.tdl_lexer.specs.declared.LexFault.TheVariants.{NotUtf8, BadChar, OpenString, OpenComment, OpenGroup}
use Rattle.tdl_lexer.specs.Characters.{width}
use Rattle.tdl_lexer.specs.Pieces.{takes_group, Piece, NoPiece}

-- The fault of a text that nothing begins: what its first characters open isn't closed, or the first one begins nothing.
abbrev pub fault : Mode → ℕ → List ℕ → LexFault
fault mode at [] = BadChar at
fault mode at (c ∷ []) = if c == 34 then OpenString at else (if c == 40 && takes_group mode then OpenGroup at else BadChar at)
fault mode at (c ∷ d ∷ cs) =
    if c == 34 then OpenString at
    else (if c == 35 && d == 124 then OpenComment at else (if c == 40 && takes_group mode then OpenGroup at else BadChar at))

-- From a place on, the text is these tokens, up to its end or its first fault.
pub data Reads : Mode → ℕ → List ℕ → List Token → Option LexFault → Type 0 where
  ends : (mode : Mode) (at : ℕ) → Reads mode at [] [] None
  passes : (mode next : Mode) (at : ℕ) (cs spelled rest : List ℕ) (ts : List Token) (end : Option LexFault) → cs ≡ spelled ++ rest → Piece mode spelled rest None next
      → Reads next (at + width spelled) rest ts end → Reads mode at cs ts end
  token : (mode next : Mode) (at : ℕ) (cs spelled rest : List ℕ) (kind : TokenKind) (ts : List Token) (end : Option LexFault) → cs ≡ spelled ++ rest → Piece mode spelled rest (Some kind) next
      → Reads next (at + width spelled) rest ts end → Reads mode at cs (record { kind = kind; from = at; to = at + width spelled } ∷ ts) end
  stuck : (mode : Mode) (at : ℕ) (c : ℕ) (cs : List ℕ) → NoPiece mode (c ∷ cs) → Reads mode at (c ∷ cs) [] (Some (fault mode at (c ∷ cs)))

-- the characters after a byte order mark at the beginning, and its bytes
abbrev pub unmarked : List ℕ → List ℕ
unmarked [] = []
unmarked (c ∷ cs) = if c == 0xFEFF then cs else c ∷ cs

abbrev pub mark_width : List ℕ → ℕ
mark_width [] = 0
mark_width (c ∷ cs) = if c == 0xFEFF then 3 else 0

-- these bytes are these tokens, up to the end or the first fault
pub data Tokens (source : List ℕ) : List Token → Option LexFault → Type 0 where
  spelled : (ts : List Token) (end : Option LexFault) → IsUtf8 source → Reads Plain (mark_width (chars source)) (unmarked (chars source)) ts end → Tokens source ts end
  not_utf8 : (at : ℕ) → (IsUtf8 source → ⊥) → IsValidUpTo source at → Tokens source [] (Some (NotUtf8 at))
