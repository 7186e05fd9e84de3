-- The same of bytes: names, words, blanks and tokens.
use Rattle.std.proofs.Common.{◌≡◌, ℕ, ◌∙◌, ◌<◌, Bool, true, false, ◌==◌, List, [], ◌∷◌, ◌++◌, refl, ap, sym, subst, length, arith}
use Rattle.std.specs.List.{All}
use Rattle.std.specs.Str.{chars, encode_utf8_all, IsUtf8}
use Rattle.std.proofs.lemmas.Bool.Decides.{nat_tests}
use Rattle.std.proofs.lemmas.Str.{chars-append, chars-IsAscii, IsUtf8-from_ascii, encodes-chars}
use Rattle.std.proofs.lemmas.Str.Ascii.{IsAscii-cons, IsAscii-nil}
use Rattle.mrs_spelling.specs.declared.kinds.Kind.{Kind}
use Rattle.mrs_spelling.specs.Forms.{Class, white, in_name, only, has, Form, sign, token}
use Rattle.mrs_spelling.specs.Grammar.{run, blanks, word, name}
use Rattle.mrs_spelling.specs.Reading.{head, passes}
use Rattle.mrs_reading.specs.Meaning.{Piece}
use Rattle.mrs_text.proofs.Taking.{Takes, take_sign, take_seq, take_then, take_none, take_more, take_token, take_run}
use Rattle.mrs_text.proofs.Uppers.{IsRunOf}

abbrev pub Eats : Form → List ℕ → List ℕ → List Piece → Type 0
Eats r s rest ps = Takes r (chars s) (chars rest) ps

-- the next character isn't, or is, in the class
abbrev pub Past : Class → List ℕ → Type 0
Past x s = passes x (head (chars s)) ≡ false

abbrev pub Meets : Class → List ℕ → Type 0
Meets x s = passes x (head (chars s)) ≡ true

pub first_low : (c : ℕ) (s : List ℕ) → c < 128 → chars (c ∷ s) ≡ c ∷ chars s
first_low c s l = let a = IsAscii-cons c [] l IsAscii-nil in chars-append (c ∷ []) s (IsUtf8-from_ascii (c ∷ []) a) ∙ ap (λ z. z ++ chars s) (chars-IsAscii (c ∷ []) a)

pub past_low : (x : Class) (c : ℕ) (s : List ℕ) → c < 128 → has x c ≡ false → Past x (c ∷ s)
past_low x c s l h = ap (λ z. passes x (head z)) (first_low c s l) ∙ h

pub meets_low : (x : Class) (c : ℕ) (s : List ℕ) → c < 128 → has x c ≡ true → Meets x (c ∷ s)
meets_low x c s l h = ap (λ z. passes x (head z)) (first_low c s l) ∙ h

pub same_number : (c : ℕ) → (c == c) ≡ true
same_number c = grind (arith, nat_tests)

pub eat_sign : (x : Class) (c : ℕ) (s : List ℕ) → c < 128 → has x c ≡ true → Eats (sign x) (c ∷ s) s []
eat_sign x c s l h = subst (λ (z : List ℕ). Takes (sign x) z (chars s) []) (sym (first_low c s l)) (take_sign x c (chars s) h)

pub eat_only : (c : ℕ) (s : List ℕ) → c < 128 → Eats (sign (only c)) (c ∷ s) s []
eat_only c s l = eat_sign (only c) c s l (same_number c)

pub eat_blank : (rest : List ℕ) → Past white rest → Eats blanks (32 ∷ rest) rest []
eat_blank rest p = take_more white (sign white) (chars (32 ∷ rest)) (chars rest) (chars rest) [] [] (meets_low white 32 rest (omega arith) refl) (eat_sign white 32 rest (omega arith) refl) (take_none white (sign white) (chars rest) p)

pub no_blank : (rest : List ℕ) → Past white rest → Eats blanks rest rest []
no_blank rest p = take_none white (sign white) (chars rest) p

abbrev pub AllLow : List ℕ → Type 0
AllLow [] = Unit {0}
AllLow (c ∷ cs) = (c < 128) × AllLow cs

pub eat_word : (cs rest : List ℕ) → AllLow cs → Past white rest → Eats (word cs) (cs ++ 32 ∷ rest) rest []
eat_word [] rest l p = eat_blank rest p
eat_word (c ∷ cs) rest l p = take_seq (sign (only c)) (word cs) (chars (c ∷ (cs ++ 32 ∷ rest))) (chars (cs ++ 32 ∷ rest)) (chars rest) [] [] (eat_only c (cs ++ 32 ∷ rest) l.0) (eat_word cs rest l.1 p)

-- where no white space stands after it
pub eat_tight : (cs rest : List ℕ) → AllLow cs → Past white rest → Eats (word cs) (cs ++ rest) rest []
eat_tight [] rest l p = no_blank rest p
eat_tight (c ∷ cs) rest l p = take_seq (sign (only c)) (word cs) (chars (c ∷ (cs ++ rest))) (chars (cs ++ rest)) (chars rest) [] [] (eat_only c (cs ++ rest) l.0) (eat_tight cs rest l.1 p)

no_chars : (s cs : List ℕ) → encode_utf8_all cs ≡ s → 0 < length s → 0 < length cs
no_chars s [] e l = absurd (let f = ap length e in omega (arith, f, l))
no_chars s (c ∷ cs) e l = omega arith

pub chars_some : (s : List ℕ) → IsUtf8 s → 0 < length s → 0 < length (chars s)
chars_some s u l = no_chars s (chars s) (encodes-chars s u) l

run_of : (x : Class) (cs rest : List ℕ) → 0 < length cs → All (λ c. has x c ≡ true) cs → passes x (head rest) ≡ false → Takes (run x) (cs ++ rest) rest []
run_of x [] rest l h p = absurd (omega (arith, l))
run_of x (c ∷ cs) rest l h p = take_run x c cs rest h p

pub eat_run : (x : Class) (s rest : List ℕ) → IsRunOf x s → Past x rest → Eats (run x) (s ++ rest) rest []
eat_run x s rest r p = subst (λ (z : List ℕ). Takes (run x) z (chars rest) []) (sym (chars-append s rest r.utf8)) (run_of x (chars s) (chars rest) (chars_some s r.utf8 r.some) r.signs p)

-- the first character of a run
first_of_run : (x y : Class) (cs rest : List ℕ) (b : Bool) → 0 < length cs → All (λ c. has x c ≡ true) cs → ((c : ℕ) → has x c ≡ true → has y c ≡ b) → passes y (head (cs ++ rest)) ≡ b
first_of_run x y [] rest b l h f = absurd (omega (arith, l))
first_of_run x y (c ∷ cs) rest b l h f = f c (h 0 0 (omega arith))

pub run_first : (x y : Class) (s rest : List ℕ) (b : Bool) → IsRunOf x s → ((c : ℕ) → has x c ≡ true → has y c ≡ b) → passes y (head (chars (s ++ rest))) ≡ b
run_first x y s rest b r f = ap (λ z. passes y (head z)) (chars-append s rest r.utf8) ∙ first_of_run x y (chars s) (chars rest) b (chars_some s r.utf8 r.some) r.signs f

pub eat_token : (k : Kind) (p : Form) (s rest : List ℕ) → IsUtf8 s → Eats p (s ++ rest) rest [] → Eats (token k p) (s ++ rest) rest (record { kind = k; text = s } ∷ [])
eat_token k p s rest u h =
    let e = chars-append s rest u in
    let w = take_token k p (chars s) (chars rest) (subst (λ (z : List ℕ). Takes p z (chars rest) []) e h) in
    subst (λ (z : List ℕ). Takes (token k p) z (chars rest) (record { kind = k; text = s } ∷ [])) (sym e)
    (subst (λ (z : List ℕ). Takes (token k p) (chars s ++ chars rest) (chars rest) (record { kind = k; text = z } ∷ [])) (encodes-chars s u) w)

-- a name before a colon, and one before a blank
pub eat_name : (k : Kind) (s rest : List ℕ) → IsRunOf in_name s → Eats (name k) (s ++ 58 ∷ rest) (58 ∷ rest) (record { kind = k; text = s } ∷ [])
eat_name k s rest r = take_then (token k (run in_name)) blanks (chars (s ++ 58 ∷ rest)) (chars (58 ∷ rest)) (chars (58 ∷ rest)) (record { kind = k; text = s } ∷ [])
    (eat_token k (run in_name) s (58 ∷ rest) r.utf8 (eat_run in_name s (58 ∷ rest) r (past_low in_name 58 rest (omega arith) refl)))
    (no_blank (58 ∷ rest) (past_low white 58 rest (omega arith) refl))

pub eat_value : (k : Kind) (s rest : List ℕ) → IsRunOf in_name s → Past white rest → Eats (name k) (s ++ 32 ∷ rest) rest (record { kind = k; text = s } ∷ [])
eat_value k s rest r p = take_then (token k (run in_name)) blanks (chars (s ++ 32 ∷ rest)) (chars (32 ∷ rest)) (chars rest) (record { kind = k; text = s } ∷ [])
    (eat_token k (run in_name) s (32 ∷ rest) r.utf8 (eat_run in_name s (32 ∷ rest) r (past_low in_name 32 rest (omega arith) refl)))
    (eat_blank rest p)
