-- What a form reads off the beginning of some characters.
use Rattle.std.specs.Prelude.{ℕ, ◌≡◌, Bool, true, false, List, [], ◌∷◌, ◌++◌, Option, Some, None}
use Rattle.mrs_spelling.specs.declared.kinds.Kind.{Kind}
use Rattle.mrs_spelling.specs.Forms.{Class, has, Form, nothing, sign, seq, many, either, token}

-- a token: its characters, and those before it from the beginning of the text
pub record Tok : Type 0 where
  pub kind : Kind
  pub text : List ℕ
  pub at : List ℕ

-- The form was read whole, or nothing goes on with it.
pub data Outcome : Type 0 where
  done : Outcome
  stuck : Outcome

abbrev pub head : List ℕ → Option ℕ
head [] = None
head (c ∷ cs) = Some c

abbrev pub passes : Class → Option ℕ → Bool
passes x None = false
passes x (Some c) = has x c

-- After the characters b the form reads off cs these tokens, up to where d are read and rest is left.
pub data Reads : Form → List ℕ → List ℕ → List Tok → Outcome → List ℕ → List ℕ → Type 0 where
  reads_nothing : (b cs : List ℕ) → Reads nothing b cs [] done b cs
  sign_yes : (x : Class) (b cs : List ℕ) (c : ℕ) → has x c ≡ true → Reads (sign x) b (c ∷ cs) [] done (b ++ c ∷ []) cs
  sign_no : (x : Class) (b cs : List ℕ) → passes x (head cs) ≡ false → Reads (sign x) b cs [] stuck b cs
  seq_stop : (p q : Form) (b cs d rest : List ℕ) (es : List Tok) → Reads p b cs es stuck d rest → Reads (seq p q) b cs es stuck d rest
  seq_go : (p q : Form) (b cs m mid d rest : List ℕ) (es fs : List Tok) (o : Outcome) → Reads p b cs es done m mid → Reads q m mid fs o d rest → Reads (seq p q) b cs (es ++ fs) o d rest
  many_none : (x : Class) (p : Form) (b cs : List ℕ) → passes x (head cs) ≡ false → Reads (many x p) b cs [] done b cs
  many_stop : (x : Class) (p : Form) (b cs d rest : List ℕ) (es : List Tok) → passes x (head cs) ≡ true → Reads p b cs es stuck d rest → Reads (many x p) b cs es stuck d rest
  many_go : (x : Class) (p : Form) (b cs m mid d rest : List ℕ) (es fs : List Tok) (o : Outcome) → passes x (head cs) ≡ true → Reads p b cs es done m mid → Reads (many x p) m mid fs o d rest
      → Reads (many x p) b cs (es ++ fs) o d rest
  either_yes : (x : Class) (p q : Form) (b cs d rest : List ℕ) (es : List Tok) (o : Outcome) → passes x (head cs) ≡ true → Reads p b cs es o d rest → Reads (either x p q) b cs es o d rest
  either_no : (x : Class) (p q : Form) (b cs d rest : List ℕ) (es : List Tok) (o : Outcome) → passes x (head cs) ≡ false → Reads q b cs es o d rest → Reads (either x p q) b cs es o d rest
  token_yes : (k : Kind) (p : Form) (b cs text rest : List ℕ) (es : List Tok) → Reads p b cs es done (b ++ text) rest
      → Reads (token k p) b cs (es ++ record { kind = k; text = text; at = b } ∷ []) done (b ++ text) rest
  token_no : (k : Kind) (p : Form) (b cs d rest : List ℕ) (es : List Tok) → Reads p b cs es stuck d rest → Reads (token k p) b cs es stuck d rest
