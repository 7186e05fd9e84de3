-- Texts between quotes.
use Rattle.std.proofs.Common.{◌≡◌, ℕ, suc, ◌∙◌, ◌<◌, ◌≤◌, inl, inr, Bool, true, false, not, ◌&&◌, ◌||◌, ◌==◌, if◌then◌else◌, ne_eqb, List, [], ◌∷◌, ◌++◌, refl, ap, sym, subst, append_assoc, append-nil, length, get_or, arith}
use Rattle.std.specs.List.{flat_map}
use Rattle.std.specs.Str.{chars, encode_utf8_all, IsUtf8}
use Rattle.std.specs.Char.{encode_utf8}
use Rattle.std.proofs.lemmas.Bool.{cases_lt}
use Rattle.std.proofs.lemmas.Str.{chars-encodes, encodes-chars, scalars-chars, inside_one, encode_ascii, encodes-append}
use lib.Utf8.{scalar, scalars, low_scalar}
use Rattle.mrs_spelling.specs.Forms.{any, only, other_than, has, sign, seq, either}
use Rattle.mrs_spelling.specs.Grammar.{quoted as QuotedForm}
use Rattle.mrs_spelling.specs.Reading.{head, passes}
use Rattle.mrs_reading.specs.Meaning.{without_escapes, plain}
use Rattle.mrs_text.specs.Written.{escaped}
use Rattle.mrs_text.proofs.Taking.{Takes, take_sign, take_seq, take_none, take_more, take_first, take_second}

flat_append : (f : ℕ → List ℕ) (xs ys : List ℕ) → flat_map f (xs ++ ys) ≡ flat_map f xs ++ flat_map f ys
flat_append f [] ys = refl
flat_append f (x ∷ xs) ys = ap (λ z. f x ++ z) (flat_append f xs ys) ∙ sym (append_assoc (f x) (flat_map f xs) (flat_map f ys))

abbrev is_escaped : ℕ → Bool
is_escaped c = c == 34 || c == 92

plain_sign : (c : ℕ) → is_escaped c ≡ false → escaped c ≡ c ∷ []
plain_sign c e = ap (λ (b : Bool). if b then 92 ∷ c ∷ [] else c ∷ []) e

marked_sign : (c : ℕ) → is_escaped c ≡ true → escaped c ≡ 92 ∷ c ∷ []
marked_sign c e = ap (λ (b : Bool). if b then 92 ∷ c ∷ [] else c ∷ []) e

high_sign : (c : ℕ) → 128 ≤ c → is_escaped c ≡ false
high_sign c l =
    let a : (c == 34) ≡ false = ne_eqb c 34 (λ e. omega (arith, e, l)) in
    let b : (c == 92) ≡ false = ne_eqb c 92 (λ e. omega (arith, e, l)) in ap (λ z. z || c == 92) a ∙ b

high_flat : (bs : List ℕ) → ((k : ℕ) → k < length bs → 128 ≤ get_or bs k 0) → flat_map escaped bs ≡ bs
high_flat [] h = refl
high_flat (b ∷ bs) h = ap (λ z. z ++ flat_map escaped bs) (plain_sign b (high_sign b (h 0 (omega arith)))) ∙ ap (λ z. b ∷ z) (high_flat bs (λ k l. h (suc k) (omega (arith, l))))

high_bytes : (c : ℕ) → 128 ≤ c → (k : ℕ) → k < length (encode_utf8 c) → 128 ≤ get_or (encode_utf8 c) k 0
high_bytes c l k m = elim (cases_lt (get_or (encode_utf8 c) k 0) 128) [
  | inl n ↦ absurd (let e = inside_one c [] (encode_utf8 c) k (sym (append-nil (encode_utf8 c))) m n in omega (arith, e, n, l))
  | inr n ↦ n
]

low_pair : (c : ℕ) → c < 128 → encode_utf8_all (92 ∷ c ∷ []) ≡ 92 ∷ c ∷ []
low_pair c l = ap (λ z. z ++ encode_utf8_all (c ∷ [])) (encode_ascii 92 (omega arith)) ∙ ap (λ z. 92 ∷ z) (ap (λ z. z ++ []) (encode_ascii c l))

low_escape : (c : ℕ) (b : Bool) → is_escaped c ≡ b → c < 128 → escaped c ++ [] ≡ encode_utf8_all (escaped c)
low_escape c true e l = ap (λ z. z ++ []) (marked_sign c e) ∙ sym (low_pair c l) ∙ ap encode_utf8_all (sym (marked_sign c e))
low_escape c false e l = ap (λ z. z ++ []) (plain_sign c e) ∙ sym (ap (λ z. z ++ []) (encode_ascii c l)) ∙ ap encode_utf8_all (sym (plain_sign c e))

one_escaped : (c : ℕ) → flat_map escaped (encode_utf8 c) ≡ encode_utf8_all (escaped c)
one_escaped c = elim (cases_lt c 128) [
  | inl l ↦ ap (flat_map escaped) (encode_ascii c l) ∙ low_escape c (is_escaped c) refl l
  | inr l ↦ high_flat (encode_utf8 c) (high_bytes c l) ∙ sym (append-nil (encode_utf8 c)) ∙ ap encode_utf8_all (sym (plain_sign c (high_sign c l)))
]

all_escaped : (cs : List ℕ) → flat_map escaped (encode_utf8_all cs) ≡ encode_utf8_all (flat_map escaped cs)
all_escaped [] = refl
all_escaped (c ∷ cs) = flat_append escaped (encode_utf8 c) (encode_utf8_all cs) ∙ (let a = one_escaped c in let b = all_escaped cs in let d : encode_utf8_all (escaped c ++ flat_map escaped cs) ≡ encode_utf8_all (escaped c) ++ encode_utf8_all (flat_map escaped cs) = encodes-append (escaped c) (flat_map escaped cs) in cc)

both : (a b : Bool) → (a && b) ≡ true → (a ≡ true) × (b ≡ true)
both true true e = (refl, refl)
both true false e = absurd (cc)
both false b e = absurd (cc)

escaped_scalars : (cs : List ℕ) → scalars cs ≡ true → scalars (flat_map escaped cs) ≡ true
escaped_scalars [] e = refl
escaped_scalars (c ∷ cs) e = by (is_escaped c) refl (escaped_scalars cs (both (scalar c) (scalars cs) e).1)
  where
    by : (b : Bool) → is_escaped c ≡ b → scalars (flat_map escaped cs) ≡ true → scalars (escaped c ++ flat_map escaped cs) ≡ true
    by true h k = ap (λ z. scalars (z ++ flat_map escaped cs)) (marked_sign c h) ∙ ap (λ z. scalar 92 && (z && scalars (flat_map escaped cs))) (both (scalar c) (scalars cs) e).0 ∙ ap (λ z. scalar 92 && (true && z)) k ∙ ap (λ z. z && true) (low_scalar 92 (omega arith))
    by false h k = ap (λ z. scalars (z ++ flat_map escaped cs)) (plain_sign c h) ∙ ap (λ z. z && scalars (flat_map escaped cs)) (both (scalar c) (scalars cs) e).0 ∙ k

pub chars_escaped : (t : List ℕ) → IsUtf8 t → chars (flat_map escaped t) ≡ flat_map escaped (chars t)
chars_escaped t u = ap chars (ap (flat_map escaped) (sym (encodes-chars t u)) ∙ all_escaped (chars t)) ∙ chars-encodes (flat_map escaped (chars t)) (escaped_scalars (chars t) (scalars-chars t u))

pub escaped_utf8 : (t : List ℕ) → IsUtf8 t → IsUtf8 (flat_map escaped t)
escaped_utf8 t u = (flat_map escaped (chars t), (escaped_scalars (chars t) (scalars-chars t u), sym (all_escaped (chars t)) ∙ ap (flat_map escaped) (encodes-chars t u)))

-- a quote and a backslash stand after a backslash, and others alone
not_quote : (c : ℕ) → is_escaped c ≡ false → ((c == 34) ≡ false) × ((c == 92) ≡ false)
not_quote c e = by (c == 34) (c == 92) e
  where
    by : (a b : Bool) → (a || b) ≡ false → (a ≡ false) × (b ≡ false)
    by true b e = absurd (cc)
    by false b e = (refl, e)

bare_sign : (c : ℕ) (cs rest : List ℕ) → is_escaped c ≡ false → Takes QuotedForm (cs ++ rest) rest [] → Takes QuotedForm (c ∷ (cs ++ rest)) rest []
bare_sign c cs rest e h =
    let n = not_quote c e in
    let t : has (other_than 34) c ≡ true = ap not n.0 in
    take_more (other_than 34) (either (only 92) (seq (sign (only 92)) (sign any)) (sign (other_than 34))) (c ∷ (cs ++ rest)) (cs ++ rest) rest [] [] t
    (take_second (only 92) (seq (sign (only 92)) (sign any)) (sign (other_than 34)) (c ∷ (cs ++ rest)) (cs ++ rest) [] n.1 (take_sign (other_than 34) c (cs ++ rest) t)) h

pair_sign : (c : ℕ) (cs rest : List ℕ) → Takes QuotedForm (cs ++ rest) rest [] → Takes QuotedForm (92 ∷ c ∷ (cs ++ rest)) rest []
pair_sign c cs rest h =
    take_more (other_than 34) (either (only 92) (seq (sign (only 92)) (sign any)) (sign (other_than 34))) (92 ∷ c ∷ (cs ++ rest)) (cs ++ rest) rest [] [] refl
    (take_first (only 92) (seq (sign (only 92)) (sign any)) (sign (other_than 34)) (92 ∷ c ∷ (cs ++ rest)) (cs ++ rest) [] refl
    (take_seq (sign (only 92)) (sign any) (92 ∷ c ∷ (cs ++ rest)) (c ∷ (cs ++ rest)) (cs ++ rest) [] [] (take_sign (only 92) 92 (c ∷ (cs ++ rest)) refl) (take_sign any c (cs ++ rest) refl))) h

pub take_escaped : (cs rest : List ℕ) → passes (other_than 34) (head rest) ≡ false → Takes QuotedForm (flat_map escaped cs ++ rest) rest []
take_escaped [] rest h = take_none (other_than 34) (either (only 92) (seq (sign (only 92)) (sign any)) (sign (other_than 34))) rest h
take_escaped (c ∷ cs) rest h = by (is_escaped c) refl (take_escaped cs rest h)
  where
    by : (b : Bool) → is_escaped c ≡ b → Takes QuotedForm (flat_map escaped cs ++ rest) rest [] → Takes QuotedForm ((escaped c ++ flat_map escaped cs) ++ rest) rest []
    by true e k = subst (λ (z : List ℕ). Takes QuotedForm ((z ++ flat_map escaped cs) ++ rest) rest []) (sym (marked_sign c e)) (pair_sign c (flat_map escaped cs) rest k)
    by false e k = subst (λ (z : List ℕ). Takes QuotedForm ((z ++ flat_map escaped cs) ++ rest) rest []) (sym (plain_sign c e)) (bare_sign c (flat_map escaped cs) rest e k)

without : (cs : List ℕ) → without_escapes false (flat_map escaped cs) ≡ cs
without [] = refl
without (c ∷ cs) = by (is_escaped c) refl (without cs)
  where
    by : (b : Bool) → is_escaped c ≡ b → without_escapes false (flat_map escaped cs) ≡ cs → without_escapes false (escaped c ++ flat_map escaped cs) ≡ c ∷ cs
    by true e k = ap (λ z. without_escapes false (z ++ flat_map escaped cs)) (marked_sign c e) ∙ ap (λ z. c ∷ z) k
    by false e k = ap (λ z. without_escapes false (z ++ flat_map escaped cs)) (plain_sign c e) ∙ ap (λ (b : Bool). if b then without_escapes true (flat_map escaped cs) else c ∷ without_escapes false (flat_map escaped cs)) (not_quote c e).1 ∙ ap (λ z. c ∷ z) k

-- reading what was escaped gives it back
pub plain_escaped : (t : List ℕ) → IsUtf8 t → plain (flat_map escaped t) ≡ t
plain_escaped t u = ap (λ z. encode_utf8_all (without_escapes false z)) (chars_escaped t u) ∙ ap encode_utf8_all (without (chars t)) ∙ encodes-chars t u
