-- Tokens with what they spell.
use Rattle.std.specs.Prelude.{◌≡◌, ℕ, List, map}
use Rattle.std.specs.Str.{encode_utf8_all}
use Rattle.tdl_lexer.specs.declared.TokenKind.{TokenKind}
use Rattle.tdl_lexer.specs.declared.Token.{Token}
use Rattle.tdl_lexer.specs.Spelling.{spelling, value_of}

-- a token with its characters and its place
pub record Tok : Type 0 where
  pub kind : TokenKind
  pub spelled : List ℕ
  pub at : ℕ

-- the bytes of the token's value: of a name in lower case, of a string without quotes and escapes
abbrev pub value : Tok → List ℕ
value t = encode_utf8_all (value_of t.kind t.spelled)

abbrev pub tok_of : List ℕ → Token → Tok
tok_of text t = record { kind = t.kind; spelled = spelling text t; at = t.from }

abbrev pub toks_of : List ℕ → List Token → List Tok
toks_of text tokens = map (tok_of text) tokens

abbrev pub IsKind : TokenKind → Tok → Type 0
IsKind kind t = t.kind ≡ kind
