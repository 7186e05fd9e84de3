-- A variable as it is written, with its property list.
use Rattle.std.proofs.Common.{◌≡◌, ℕ, ◌∙◌, ◌<◌, ◌^◌, Bool, true, false, not, ◌&&◌, ◌||◌, ◌==◌, List, [], ◌∷◌, ◌++◌, refl, ap, sym, subst, append_assoc, append-nil, length, codes, Option, Some, None, decimal, ltb, leb, le-leb, ltb-true, leb-true, arith}
use Rattle.std.specs.List.{All, flat_map}
use Rattle.std.specs.Str.{chars, IsUtf8, IsAscii}
use Rattle.std.specs.Char.{is_whitespace, is_ascii_alphabetic, is_ascii_digit, digit_value}
use Rattle.std.specs.Str.Parse.{AllDigits}
use Rattle.std.proofs.lemmas.Fmt.{decimal_is_IsNumeral, IsAscii-decimal}
use Rattle.std.proofs.lemmas.Str.{chars-IsAscii, IsUtf8-from_ascii, IsUtf8-append}
use Rattle.std.proofs.lemmas.Str.Ascii.{IsAscii-from_all}
use Rattle.std.proofs.lemmas.Str.Parse.{digit_from_value}
use Rattle.std.proofs.lemmas.List.Elements.{All-nil, All-cons, All-head, All-tail}
use Rattle.mrs_model.specs.Meanings.{Property, Variable}
use Rattle.mrs_model.specs.Texts.{IsSort}
use Rattle.mrs_model.specs.Valid.{IsProperty, IsVariable}
use Rattle.mrs_spelling.specs.declared.kinds.Kind.{Kind}
use Rattle.mrs_spelling.specs.declared.kinds.Kind.TheVariants.{PropName, PropValue}
use Rattle.mrs_spelling.specs.Forms.{Class, white, letter, digit, in_name, only, has, nothing, seq, many, either, token}
use Rattle.mrs_spelling.specs.Grammar.{run, blanks, word, name, property, properties, var}
use Rattle.mrs_reading.specs.Meaning.{Piece}
use Rattle.mrs_text.specs.Written.{upper, property_text, properties_text, variable_text}
use Rattle.mrs_text.specs.Stored.{IsStoredProperty, IsStoredVariable}
use Rattle.mrs_text.proofs.Taking.{take_nothing, take_seq, take_then, take_none, take_more, take_first, take_second}
use Rattle.mrs_text.proofs.Uppers.{IsRunOf, all_weaker, held, name_run, upper_run}
use Rattle.mrs_text.proofs.Eating.{Eats, Past, past_low, meets_low, eat_blank, eat_word, eat_run, eat_token, eat_name, eat_value, run_first}
use Rattle.mrs_text.proofs.Steps.{number_of, property_pieces, variable_pieces}

-- classes of characters
pub name_white : (c : ℕ) → has in_name c ≡ true → has white c ≡ false
name_white c h = by (is_whitespace c) refl
  where
    by : (b : Bool) → is_whitespace c ≡ b → is_whitespace c ≡ false
    by true e = absurd (let f : has in_name c ≡ false = ap (λ z. not (z || c == 91 || c == 93 || c == 60 || c == 62 || c == 58 || c == 34)) e in cc)
    by false e = e

pub name_open : (c : ℕ) → has in_name c ≡ true → has (only 91) c ≡ false
name_open c h = by (is_whitespace c) (c == 91) refl refl
  where
    by : (w b : Bool) → is_whitespace c ≡ w → (c == 91) ≡ b → (c == 91) ≡ false
    by w false e f = f
    by true true e f = absurd (let g : has in_name c ≡ false = ap (λ z. not (z || c == 91 || c == 93 || c == 60 || c == 62 || c == 58 || c == 34)) e in cc)
    by false true e f = absurd (let g : has in_name c ≡ not (false || c == 91 || c == 93 || c == 60 || c == 62 || c == 58 || c == 34) = ap (λ z. not (z || c == 91 || c == 93 || c == 60 || c == 62 || c == 58 || c == 34)) e in
        let k : not (false || c == 91 || c == 93 || c == 60 || c == 62 || c == 58 || c == 34) ≡ false = ap (λ z. not (false || z || c == 93 || c == 60 || c == 62 || c == 58 || c == 34)) f in cc)

implied : (a b : Bool) → (not a || b) ≡ true → a ≡ true → b ≡ true
implied true b e f = e
implied false b e f = absurd (cc)

both : (a b : Bool) → (a && b) ≡ true → (a ≡ true) × (b ≡ true)
both true true e = (refl, refl)
both true false e = absurd (cc)
both false b e = absurd (cc)

was_not : (b : Bool) → not b ≡ true → b ≡ false
was_not true e = absurd (cc)
was_not false e = refl

abbrev sort_byte : ℕ → Bool
sort_byte b = ltb 96 b && ltb b 123

pub sort_low : (b : ℕ) → sort_byte b ≡ true → b < 128
sort_low b h = let w = ltb-true b 123 (both (ltb 96 b) (ltb b 123) h).1 in omega (arith, w)

abbrev sort_is_letter : ℕ → Bool
sort_is_letter b = not (sort_byte b) || is_ascii_alphabetic b

abbrev letter_in_name : ℕ → Bool
letter_in_name b = not (sort_byte b) || has in_name b

pub sort_ascii : (s : List ℕ) → IsSort s → IsAscii s
sort_ascii s h = IsAscii-from_all s (all_weaker (λ b. sort_byte b ≡ true) (λ b. b < 128) s sort_low h.letters)

pub run_ascii : (x : Class) (s : List ℕ) → IsAscii s → 0 < length s → All (λ c. has x c ≡ true) s → IsRunOf x s
run_ascii x s a l h = record { utf8 = IsUtf8-from_ascii s a; some = l; signs = subst (All (λ c. has x c ≡ true)) (sym (chars-IsAscii s a)) h }

pub sort_run : (s : List ℕ) → IsSort s → IsRunOf letter s
sort_run s h = run_ascii letter s (sort_ascii s h) h.filled (all_weaker (λ b. sort_byte b ≡ true) (λ c. has letter c ≡ true) s (λ b e. implied (sort_byte b) (is_ascii_alphabetic b) (held sort_is_letter 128 b (sort_low b e) refl) e) h.letters)

pub sort_name : (s : List ℕ) → IsSort s → IsRunOf in_name s
sort_name s h = run_ascii in_name s (sort_ascii s h) h.filled (all_weaker (λ b. sort_byte b ≡ true) (λ c. has in_name c ≡ true) s (λ b e. implied (sort_byte b) (has in_name b) (held letter_in_name 128 b (sort_low b e) refl) e) h.letters)

abbrev range_is_digit : ℕ → Bool
range_is_digit c = not (leb 48 c) || is_ascii_digit c

pub one_digit : (c : ℕ) → digit_value c < 10 → is_ascii_digit c ≡ true
one_digit c l = let d = digit_from_value c l in implied (leb 48 c) (is_ascii_digit c) (held range_is_digit 58 c (omega (arith, d)) refl) (le-leb 48 c (omega (arith, d)))

all_digits : (ds : List ℕ) → AllDigits 10 ds → All (λ c. has digit c ≡ true) ds
all_digits [] h = All-nil (λ c. has digit c ≡ true)
all_digits (c ∷ ds) h = All-cons (λ c. has digit c ≡ true) c ds (one_digit c h.0) (all_digits ds h.1)

pub digit_run : (n : ℕ) → n < 2 ^ 64 → IsRunOf digit (decimal n)
digit_run n l = let d = decimal_is_IsNumeral n l in run_ascii digit (decimal n) (IsAscii-decimal n l) d.0.0 (all_digits (decimal n) d.0.1)

abbrev digit_or_letter : ℕ → Bool
digit_or_letter c = not (is_ascii_digit c) || not (is_ascii_alphabetic c)

digit_small : (c : ℕ) → is_ascii_digit c ≡ true → c < 58
digit_small c h = let w = leb-true c 57 (both (leb 48 c) (leb c 57) h).1 in omega (arith, w)

pub digit_no_letter : (c : ℕ) → has digit c ≡ true → has letter c ≡ false
digit_no_letter c h = was_not (is_ascii_alphabetic c) (implied (is_ascii_digit c) (not (is_ascii_alphabetic c)) (held digit_or_letter 58 c (digit_small c h) refl) h)

pub digit_low : (c : ℕ) → has digit c ≡ true → c < 128
digit_low c h = let l = digit_small c h in omega (arith, l)

-- letters and digits
key_run : (s : List ℕ) (n : ℕ) (rest : List ℕ) → IsSort s → n < 2 ^ 64 → Past digit rest → Eats (seq (run letter) (run digit)) ((s ++ decimal n) ++ rest) rest []
key_run s n rest h l p =
    let d = digit_run n l in
    subst (λ (z : List ℕ). Eats (seq (run letter) (run digit)) z rest []) (sym (append_assoc s (decimal n) rest))
    (take_seq (run letter) (run digit) (chars (s ++ (decimal n ++ rest))) (chars (decimal n ++ rest)) (chars rest) [] []
    (eat_run letter s (decimal n ++ rest) (sort_run s h) (run_first digit letter (decimal n) rest false d digit_no_letter)) (eat_run digit (decimal n) rest d p))

pub key_utf8 : (s : List ℕ) (n : ℕ) → IsSort s → n < 2 ^ 64 → IsUtf8 (s ++ decimal n)
key_utf8 s n h l = IsUtf8-append s (decimal n) (sort_run s h).utf8 (digit_run n l).utf8

-- what follows the letters and digits
eat_key : (k : Kind) (s : List ℕ) (n : ℕ) (x rest : List ℕ) (ps : List Piece) → IsSort s → n < 2 ^ 64 → Past white x → Eats (either (only 91) properties nothing) x rest ps
    → Eats (var k) ((s ++ decimal n) ++ 32 ∷ x) rest (record { kind = k; text = s ++ decimal n } ∷ ps)
eat_key k s n x rest ps h l p e =
    take_seq (token k (seq (run letter) (run digit))) (seq blanks (either (only 91) properties nothing)) (chars ((s ++ decimal n) ++ 32 ∷ x)) (chars (32 ∷ x)) (chars rest) (record { kind = k; text = s ++ decimal n } ∷ []) ps
    (eat_token k (seq (run letter) (run digit)) (s ++ decimal n) (32 ∷ x) (key_utf8 s n h l) (key_run s n (32 ∷ x) h l (past_low digit 32 x (omega arith) refl)))
    (take_seq blanks (either (only 91) properties nothing) (chars (32 ∷ x)) (chars x) (chars rest) [] ps (eat_blank x p) e)

no_properties : (x : List ℕ) → Past (only 91) x → Eats (either (only 91) properties nothing) x x []
no_properties x p = take_second (only 91) properties nothing (chars x) (chars x) [] p (take_nothing (chars x))

-- the properties
abbrev props_in : List Property → List ℕ → List ℕ
props_in [] x = 93 ∷ 32 ∷ x
props_in (p ∷ ps) x = upper p.name ++ 58 ∷ 32 ∷ (p.value ++ 32 ∷ props_in ps x)

props_text : (ps : List Property) (x : List ℕ) → flat_map property_text ps ++ (32 ∷ 93 ∷ 32 ∷ x) ≡ 32 ∷ props_in ps x
props_text [] x = refl
props_text (p ∷ ps) x = append_assoc (property_text p) (flat_map property_text ps) (32 ∷ 93 ∷ 32 ∷ x) ∙ ap (λ z. property_text p ++ z) (props_text ps x) ∙ append_assoc (32 ∷ upper p.name) (58 ∷ 32 ∷ p.value) (32 ∷ props_in ps x)

abbrev AreProps : List Property → Type 0
AreProps ps = All IsProperty ps × All IsStoredProperty ps

module _ (x : List ℕ) where
  first_props : (p : Property) (ps : List Property) → AreProps (p ∷ ps) → IsRunOf in_name (upper p.name) × IsRunOf in_name p.value
  first_props p ps h =
      let a = All-head IsProperty p ps h.0 in
      let b = All-head IsStoredProperty p ps h.1 in
      (upper_run p.name a.name b.name, name_run p.value a.value b.value)

  rest_props : (p : Property) (ps : List Property) → AreProps (p ∷ ps) → AreProps ps
  rest_props p ps h = (All-tail IsProperty p ps h.0, All-tail IsStoredProperty p ps h.1)

  props_white : (ps : List Property) → AreProps ps → Past white (props_in ps x)
  props_white [] h = past_low white 93 (32 ∷ x) (omega arith) refl
  props_white (p ∷ ps) h = run_first in_name white (upper p.name) (58 ∷ 32 ∷ (p.value ++ 32 ∷ props_in ps x)) false (first_props p ps h).0 name_white

  eat_property : (p : Property) (ps : List Property) → AreProps (p ∷ ps) → Eats property (props_in (p ∷ ps) x) (props_in ps x) (property_pieces p)
  eat_property p ps h =
      let w = first_props p ps h in
      let t = p.value ++ 32 ∷ props_in ps x in
      take_seq (name PropName) (seq (word (codes ":")) (name PropValue)) (chars (upper p.name ++ 58 ∷ 32 ∷ t)) (chars (58 ∷ 32 ∷ t)) (chars (props_in ps x))
      (record { kind = PropName; text = upper p.name } ∷ []) (record { kind = PropValue; text = p.value } ∷ [])
      (eat_name PropName (upper p.name) (32 ∷ t) w.0)
      (take_seq (word (codes ":")) (name PropValue) (chars (58 ∷ 32 ∷ t)) (chars t) (chars (props_in ps x)) [] (record { kind = PropValue; text = p.value } ∷ [])
      (eat_word (codes ":") t (omega arith, tt) (run_first in_name white p.value (32 ∷ props_in ps x) false w.1 name_white))
      (eat_value PropValue p.value (props_in ps x) w.1 (props_white ps (rest_props p ps h))))

  eat_props : (ps : List Property) → AreProps ps → Eats (many in_name property) (props_in ps x) (93 ∷ 32 ∷ x) (flat_map property_pieces ps)
  eat_props [] h = take_none in_name property (chars (93 ∷ 32 ∷ x)) (past_low in_name 93 (32 ∷ x) (omega arith) refl)
  eat_props (p ∷ ps) h =
      take_more in_name property (chars (props_in (p ∷ ps) x)) (chars (props_in ps x)) (chars (93 ∷ 32 ∷ x)) (property_pieces p) (flat_map property_pieces ps)
      (run_first in_name in_name (upper p.name) (58 ∷ 32 ∷ (p.value ++ 32 ∷ props_in ps x)) true (first_props p ps h).0 (λ c e. e))
      (eat_property p ps h) (eat_props ps (rest_props p ps h))

  eat_list : (s : List ℕ) (ps : List Property) → IsSort s → AreProps ps → Past white x → Eats properties (91 ∷ 32 ∷ (s ++ 32 ∷ props_in ps x)) x (flat_map property_pieces ps)
  eat_list s ps h a p =
      let t = s ++ 32 ∷ props_in ps x in
      let q = flat_map property_pieces ps in
      take_seq (word (codes "[")) (seq (run in_name) (seq blanks (seq (many in_name property) (word (codes "]"))))) (chars (91 ∷ 32 ∷ t)) (chars t) (chars x) [] q
      (eat_word (codes "[") t (omega arith, tt) (run_first in_name white s (32 ∷ props_in ps x) false (sort_name s h) name_white))
      (take_seq (run in_name) (seq blanks (seq (many in_name property) (word (codes "]")))) (chars t) (chars (32 ∷ props_in ps x)) (chars x) [] q
      (eat_run in_name s (32 ∷ props_in ps x) (sort_name s h) (past_low in_name 32 (props_in ps x) (omega arith) refl))
      (take_seq blanks (seq (many in_name property) (word (codes "]"))) (chars (32 ∷ props_in ps x)) (chars (props_in ps x)) (chars x) [] q
      (eat_blank (props_in ps x) (props_white ps a))
      (take_then (many in_name property) (word (codes "]")) (chars (props_in ps x)) (chars (93 ∷ 32 ∷ x)) (chars x) q (eat_props ps a) (eat_word (codes "]") x (omega arith, tt) p))))

-- the text of a variable that stands for the first time
with_list : (s : List ℕ) (n : ℕ) (ps : List Property) (x : List ℕ) → ((s ++ decimal n) ++ (((codes " [ " ++ s) ++ flat_map property_text ps) ++ codes " ]")) ++ 32 ∷ x ≡ (s ++ decimal n) ++ 32 ∷ (91 ∷ 32 ∷ (s ++ 32 ∷ props_in ps x))
with_list s n ps x =
    let f = flat_map property_text ps in
    let o = codes " [ " ++ s in
    append_assoc (s ++ decimal n) ((o ++ f) ++ codes " ]") (32 ∷ x)
    ∙ ap (λ z. (s ++ decimal n) ++ z) (append_assoc (o ++ f) (codes " ]") (32 ∷ x) ∙ append_assoc o f (32 ∷ 93 ∷ 32 ∷ x) ∙ ap (λ z. o ++ z) (props_text ps x) ∙ append_assoc (codes " [ ") s (32 ∷ props_in ps x))

first_time : (k : Kind) (s : List ℕ) (n : ℕ) (ps : List Property) (x : List ℕ) → IsSort s → All IsProperty ps → All IsStoredProperty ps → n < 2 ^ 64 → Past white x → Past (only 91) x
    → Eats (var k) (((s ++ decimal n) ++ properties_text (record { sort = s; props = ps }) ps) ++ 32 ∷ x) x (record { kind = k; text = s ++ decimal n } ∷ flat_map property_pieces ps)
first_time k s n [] x h a b l p q =
    subst (λ (z : List ℕ). Eats (var k) (z ++ 32 ∷ x) x (record { kind = k; text = s ++ decimal n } ∷ [])) (sym (append-nil (s ++ decimal n))) (eat_key k s n x x [] h l p (no_properties x q))
first_time k s n (r ∷ ps) x h a b l p q =
    let t = 91 ∷ 32 ∷ (s ++ 32 ∷ props_in (r ∷ ps) x) in
    let v = flat_map property_pieces (r ∷ ps) in
    subst (λ (z : List ℕ). Eats (var k) z x (record { kind = k; text = s ++ decimal n } ∷ v)) (sym (with_list s n (r ∷ ps) x))
    (eat_key k s n t x v h l (past_low white 91 (32 ∷ (s ++ 32 ∷ props_in (r ∷ ps) x)) (omega arith) refl)
    (take_first (only 91) properties nothing (chars t) (chars x) v (meets_low (only 91) 91 (32 ∷ (s ++ 32 ∷ props_in (r ∷ ps) x)) (omega arith) refl) (eat_list x s (r ∷ ps) h (a, b) p)))

pub eat_var : (k : Kind) (o : Option ℕ) (next : ℕ) (v : Variable) (x : List ℕ) → IsVariable v → IsStoredVariable v → number_of o next < 2 ^ 64 → Past white x → Past (only 91) x
    → Eats (var k) (variable_text o next v ++ 32 ∷ x) x (variable_pieces k o next v)
eat_var k (Some n) next v x h a l p q = eat_key k v.sort n x x [] h.sort l p (no_properties x q)
eat_var k None next v x h a l p q = first_time k v.sort next v.props x h.sort h.props a l p q
