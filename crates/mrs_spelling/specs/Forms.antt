-- Forms of text, as in an EBNF whose choices the next character decides.
use Rattle.std.specs.Prelude.{ℕ, ◌==◌, ◌||◌, not, Bool, true}
use Rattle.std.specs.Char.{is_whitespace, is_ascii_digit, is_ascii_alphabetic}
use Rattle.mrs_spelling.specs.declared.kinds.Kind.{Kind}

-- the characters that end a name: white space and [ ] < > : "
abbrev pub ends_name : ℕ → Bool
ends_name c = is_whitespace c || c == 91 || c == 93 || c == 60 || c == 62 || c == 58 || c == 34

-- classes of characters
pub data Class : Type 0 where
  white : Class
  letter : Class
  digit : Class
  -- those of names, and those of predicates without quotes
  in_name : Class
  in_pred : Class
  any : Class
  only : ℕ → Class
  other_than : ℕ → Class

abbrev pub has : Class → ℕ → Bool
has white c = is_whitespace c
has letter c = is_ascii_alphabetic c
has digit c = is_ascii_digit c
has in_name c = not (ends_name c)
has in_pred c = not (ends_name c) || c == 58
has any c = true
has (only d) c = c == d
has (other_than d) c = not (c == d)

pub data Form : Type 0 where
  nothing : Form
  -- a character of the class
  sign : Class → Form
  -- the one and then the other
  seq : Form → Form → Form
  -- the form again and again, as long as the next character is in the class
  many : Class → Form → Form
  -- the first form where the next character is in the class, otherwise the second
  either : Class → Form → Form → Form
  -- a token of this kind
  token : Kind → Form → Form
