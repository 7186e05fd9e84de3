-- What a token spells, and the value that it stands for.
use Rattle.std.specs.Prelude.{ℕ, ◌-◌, Bool, true, false, ◌==◌, if◌then◌else◌, List, [], ◌∷◌, map, take, drop, Contains, None}
use Rattle.std.specs.Str.{chars}
use Rattle.std.specs.Char.{to_ascii_lowercase}
use Rattle.tdl_lexer.specs.declared.TokenKind.{TokenKind}
use Rattle.tdl_lexer.specs.declared.TokenKind.TheVariants.{Name, Text, Symbol, Coref, Directive}
use Rattle.tdl_lexer.specs.declared.Token.{Token}
use Rattle.tdl_lexer.specs.Readings.{Tokens}

-- the token is one of the text's, which has no fault
pub record IsTokenOf (text : List ℕ) (token : Token) : Type 0 where
  pub tokens : List Token
  pub reading : Tokens text tokens None
  pub among : Contains tokens token

-- the kinds whose tokens have a value
abbrev pub has_value : TokenKind → Bool
has_value Name = true
has_value Text = true
has_value Symbol = true
has_value Coref = true
has_value Directive = true
has_value _ = false

-- the characters of a token
abbrev pub spelling : List ℕ → Token → List ℕ
spelling text token = chars (take (token.to - token.from) (drop token.from text))

-- The characters of a string up to its closing quote; a backslash stands for the character after it.
abbrev pub unescaped : Bool → List ℕ → List ℕ
unescaped after_backslash [] = []
unescaped true (c ∷ cs) = c ∷ unescaped false cs
unescaped false (c ∷ cs) = if c == 34 then [] else (if c == 92 then unescaped true cs else c ∷ unescaped false cs)

abbrev pub lower : List ℕ → List ℕ
lower cs = map to_ascii_lowercase cs

-- what stands after the first character, which marks the kind
abbrev pub after_first : List ℕ → List ℕ
after_first [] = []
after_first (c ∷ cs) = cs

-- the value of what a token spells: a name in ASCII lower case, or a string without quotes and escapes
abbrev pub value_of : TokenKind → List ℕ → List ℕ
value_of Name cs = lower cs
value_of Text cs = unescaped false (after_first cs)
value_of _ cs = lower (after_first cs)
