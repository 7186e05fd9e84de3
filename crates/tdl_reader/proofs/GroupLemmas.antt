-- Characters at the ends of texts, folds of one character, and lists that are put together from their front.
use Rattle.std.proofs.Common.{◌≡◌, ℕ, List, [], ◌∷◌, ◌++◌, length, refl, sym, ◌∙◌, ap, arith}
use Rattle.std.specs.Prelude.{Option, Some, None, ◌==◌, if◌then◌else◌}
use Rattle.std.specs.Str.{chars, IsUtf8, encode_utf8_all}
use Rattle.std.specs.Char.{encode_utf8}
use Rattle.std.specs.Str.Iter.{chars_rest, chars_steps_back}
use Rattle.std.specs.declared.str.Chars.{Chars}
use Rattle.std.proofs.lemmas.List.{append-nil}
use Rattle.std.proofs.lemmas.Bool.{false_from_ne_true, eqb-true}
use Rattle.std.proofs.lemmas.Str.{encodes-chars, encodes-append, encodes_same, chars_from_encodes, chars-nil}
use Rattle.caseless.specs.Caseless.{default_case_fold}
use Rattle.tdl_reader.specs.GroupScan.{but_last, only, fold, ends_with}

-- a list with others before it, where it is there
abbrev pub before : {A : Type 0} → List A → Option (List A) → Option (List A)
before xs None = None
before xs (Some ys) = Some (xs ++ ys)

pub but_last-last : (xs : List ℕ) (c : ℕ) → but_last (xs ++ c ∷ []) ≡ xs
but_last-last [] c = refl
but_last-last (x ∷ []) c = refl
but_last-last (x ∷ y ∷ ys) c = ap (λ l. x ∷ l) (but_last-last (y ∷ ys) c)

-- the characters of a text that ends with one
ends : (s t : List ℕ) (c : ℕ) → IsUtf8 s → IsUtf8 t → s ≡ t ++ encode_utf8 c → chars s ≡ chars t ++ c ∷ []
ends s t c u v e =
    encodes_same (chars s) (chars t ++ c ∷ [])
    (encodes-chars s u ∙ (e ∙ (ap (λ l. l ++ encode_utf8 c) (sym (encodes-chars t v)) ∙ (ap (λ l. encode_utf8_all (chars t) ++ l) (sym (append-nil (encode_utf8 c))) ∙ sym (encodes-append (chars t) (c ∷ []))))))

no_text : (s : List ℕ) → length s ≡ 0 → s ≡ []
no_text [] e = refl
no_text (x ∷ s) e = absurd (omega (arith, e))

pub but_last_of : (o : Option ℕ) (s t : Chars) → IsUtf8 (chars_rest s) → IsUtf8 (chars_rest t) → chars_steps_back s o t → chars (chars_rest t) ≡ but_last (chars (chars_rest s))
but_last_of None s t u v h =
    let e : chars (chars_rest s) ≡ [] = ap chars (no_text (chars_rest s) h.0) ∙ chars-nil in
    let f : chars (chars_rest t) ≡ [] = ap (λ q. chars (chars_rest q)) h.1 ∙ e in
    f ∙ ap but_last (sym e)
but_last_of (Some c) s t u v h = sym (ap but_last (ends (chars_rest s) (chars_rest t) c u v h) ∙ but_last-last (chars (chars_rest t)) c)

-- what a text of one character folds to
pub folded_is : (c : ℕ) (one folds : List ℕ) → IsUtf8 one → IsUtf8 folds → one ≡ [] ++ encode_utf8 c → folds ≡ encode_utf8_all (default_case_fold (chars one)) → only (chars folds) ≡ fold c
folded_is c one folds u v e f =
    let w : chars one ≡ c ∷ [] = encodes_same (chars one) (c ∷ []) (encodes-chars one u ∙ (e ∙ sym (append-nil (encode_utf8 c)))) in
    let g : default_case_fold (chars one) ≡ chars folds = chars_from_encodes (default_case_fold (chars one)) folds v (sym f) in
    ap only (sym g ∙ ap default_case_fold w)

pub ends_with-last : (k : ℕ) (xs : List ℕ) (c : ℕ) → ends_with k (xs ++ c ∷ []) ≡ (c == k)
ends_with-last k [] c = refl
ends_with-last k (x ∷ []) c = refl
ends_with-last k (x ∷ y ∷ ys) c = ends_with-last k (y ∷ ys) c

pub closed_word : (xs ys : List ℕ) (c : ℕ) → ys ≡ xs ++ c ∷ [] → c ≡ 41 → Some xs ≡ (if ends_with 41 ys then Some (but_last ys) else None)
closed_word xs ys c e q = rw (e, ends_with-last 41 xs c, q, but_last-last xs 41) refl

pub open_word : (xs ys : List ℕ) (c : ℕ) → ys ≡ xs ++ c ∷ [] → (c ≡ 41 → ⊥) → None ≡ (if ends_with 41 ys then Some (but_last ys) else None)
open_word xs ys c e q = let f = false_from_ne_true (c == 41) (λ h. q (eqb-true c 41 h)) in rw (e, ends_with-last 41 xs c, f) refl
