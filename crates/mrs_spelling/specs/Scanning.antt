-- What readers of forms find in a text, and the tokens of a text.
use Rattle.std.specs.Prelude.{ℕ, ◌≡◌, ◌<◌, ◌+◌, ◌⊎◌, List, [], ◌++◌, length, Option, Some, None}
use Rattle.std.specs.List.{AllZip}
use Rattle.std.specs.Str.{encode_utf8_all}
use Rattle.mrs_spelling.specs.declared.tokens.Token.{Token}
use Rattle.mrs_spelling.specs.declared.tokens.Stop.{Stop}
use Rattle.mrs_spelling.specs.declared.tokens.Stop.TheVariants.{Left, NoMemory}
use Rattle.mrs_spelling.specs.Forms.{Form}
use Rattle.mrs_spelling.specs.Reading.{Tok, Outcome, done, stuck, Reads}
use Rattle.mrs_spelling.specs.Grammar.{mrs}

abbrev pub size : List ℕ → ℕ
size cs = length (encode_utf8_all cs)

-- the token of the program is that of a text with n bytes
pub record IsTok (n : ℕ) (t : Token) (e : Tok) : Type 0 where
  pub kind : e.kind ≡ t.kind
  pub text : encode_utf8_all e.text ≡ t.text.now
  pub place : n ≡ size e.at + t.left

pub record ReadAfter (r : Form) (b cs : List ℕ) (o : Outcome) (rest : List ℕ) (ts : List Token) : Type 0 where
  pub toks : List Tok
  pub front : List ℕ
  pub reads : Reads r b cs toks o front rest
  pub same : AllZip (IsTok (size (b ++ cs))) ts toks

-- whatever stands before the characters
pub record HasRead (r : Form) (o : Outcome) (cs rest : List ℕ) (old new : List Token) : Type 0 where
  pub more : List Token
  pub grown : new ≡ old ++ more
  pub after : (b : List ℕ) → ReadAfter r b cs o rest more

abbrev pub HasStopped : Form → List ℕ → List Token → List Token → Stop → Type 0
HasStopped r cs old new (Left n) = (rest : List ℕ) × (n ≡ size rest) × HasRead r stuck cs rest old new
HasStopped r cs old new NoMemory = Unit {0}

-- None where the grammar reads the characters to their end, otherwise how many bytes are left where nothing goes on
abbrev pub IsStop : Outcome → List ℕ → Option ℕ → Type 0
IsStop o rest None = (o ≡ done) × (rest ≡ [])
IsStop o rest (Some n) = (n ≡ size rest) × ((o ≡ stuck) ⊎ (0 < length rest))

-- all that the grammar reads off the characters
pub record AreTokensOf (cs : List ℕ) (ts : List Token) (stop : Option ℕ) : Type 0 where
  pub toks : List Tok
  pub outcome : Outcome
  pub front : List ℕ
  pub rest : List ℕ
  pub reads : Reads mrs [] cs toks outcome front rest
  pub same : AllZip (IsTok (size cs)) ts toks
  pub stop_is : IsStop outcome rest stop
