-- Which forms fit what follows them, so that their ends can be told by the next character.
use Rattle.std.specs.Prelude.{ℕ, ◌≡◌, ◌+◌, ◌==◌, ◌&&◌, not, Bool, true, false, List, [], ◌∷◌, ◌++◌, Option, Some}
use Rattle.mrs_spelling.specs.Forms.{Class, white, letter, digit, in_name, in_pred, any, only, other_than, has, Form, nothing, sign, seq, many, either, token}
use Rattle.mrs_spelling.specs.Reading.{passes}

-- a character of each class: the bracket isn't in the others
abbrev pub example : Class → ℕ
example white = 32
example letter = 97
example digit = 48
example in_name = 97
example in_pred = 97
example any = 97
example (only c) = c
example (other_than c) = c + 1

-- some characters that a form reads: as few as may be
abbrev pub sample : Form → List ℕ
sample nothing = []
sample (sign x) = example x ∷ []
sample (seq p q) = sample p ++ sample q
sample (many x p) = []
sample (either x p q) = sample q
sample (token k p) = sample p

-- the first of them, where this one follows
abbrev pub first_of : Form → Option ℕ → Option ℕ
first_of nothing next = next
first_of (sign x) next = Some (example x)
first_of (seq p q) next = first_of p (first_of q next)
first_of (many x p) next = next
first_of (either x p q) next = first_of q next
first_of (token k p) next = first_of p next

-- the form begins with a character of the class
abbrev pub Leads : Class → Form → Type 0
Leads x nothing = ⊥
Leads x (sign y) = (c : ℕ) → has x c ≡ true → has y c ≡ true
Leads x (seq p q) = Leads x p
Leads x (many y p) = ⊥
Leads x (either y p q) = Leads y p × Leads x q
Leads x (token k p) = Leads x p

-- the form ends before this character, and so do the forms within
abbrev pub Fits : Form → Option ℕ → Type 0
Fits nothing next = Unit {0}
Fits (sign x) next = has x (example x) ≡ true
Fits (seq p q) next = Fits p (first_of q next) × Fits q next
Fits (many x p) next = (passes x next ≡ false) × Leads x p × Fits p next
Fits (either x p q) next = (passes x (first_of q next) ≡ false) × Leads x p × Fits p next × Fits q next
Fits (token k p) next = Fits p next

-- the same as tests
abbrev pub same_class : Class → Class → Bool
same_class white white = true
same_class letter letter = true
same_class digit digit = true
same_class in_name in_name = true
same_class in_pred in_pred = true
same_class any any = true
same_class (only c) (only d) = c == d
same_class (other_than c) (other_than d) = c == d
same_class _ _ = false

abbrev pub leads : Class → Form → Bool
leads x nothing = false
leads x (sign y) = same_class x y
leads x (seq p q) = leads x p
leads x (many y p) = false
leads x (either y p q) = leads y p && leads x q
leads x (token k p) = leads x p

abbrev pub fits : Form → Option ℕ → Bool
fits nothing next = true
fits (sign x) next = has x (example x)
fits (seq p q) next = fits p (first_of q next) && fits q next
fits (many x p) next = not (passes x next) && (leads x p && fits p next)
fits (either x p q) next = not (passes x (first_of q next)) && (leads x p && (fits p next && fits q next))
fits (token k p) next = fits p next
