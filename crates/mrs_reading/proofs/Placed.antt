-- A line has one place of a fault.
use Rattle.std.proofs.Common.{ℕ, ◌≡◌, List, [], ◌∷◌, ◌++◌, length, take, refl, sym, ◌∙◌, ap, subst, arith, append_assoc, append-nil}
use Rattle.std.specs.Str.{chars, IsValidUpTo, encode_utf8_all}
use Rattle.std.proofs.lemmas.Str.{utf8_valid_len-IsValidUpTo}
use Rattle.mrs_spelling.specs.Reading.{Tok}
use Rattle.mrs_spelling.specs.Grammar.{mrs}
use Rattle.mrs_spelling.specs.Faults.{Fault, unexpected, ends, breaks, FirstFault}
use Rattle.mrs_spelling.proofs.Firsts.{text_is}
use Rattle.mrs_spelling.proofs.Placed.{Begins, InOrder, in_order, never_both}
use Rattle.mrs_reading.specs.Places.{IsPlace, in_text, in_front, after_text}

-- what a list begins with, a longer front of it begins with
begins-end : (b d : List ℕ) (es : List Tok) → InOrder b es d → Begins b d
begins-end b d [] h = h
begins-end b d (e ∷ es) h = let u = begins-end e.at d es h.1 in record { more = h.0.more ++ u.more; is = u.is ∙ ap (λ l. l ++ u.more) h.0.is ∙ append_assoc b h.0.more u.more }

token-begins : (b d : List ℕ) (e : Tok) (before after : List Tok) → InOrder b (before ++ e ∷ after) d → Begins e.at d
token-begins b d e [] after h = begins-end e.at d after h.1
token-begins b d e (t ∷ before) after h = token-begins t.at d e before after h.1

-- a fault stands after a front of the characters
fault-begins : (cs front : List ℕ) → Fault cs front → Begins front cs
fault-begins cs front (unexpected c rest e v not) = record { more = c ∷ rest; is = e }
fault-begins cs front (ends e v not) = record { more = []; is = e ∙ sym (append-nil front) }
fault-begins cs front (breaks before after t o d rest h b at) =
    let u = token-begins [] d t before after (in_order mrs [] cs (before ++ t ∷ after) o d rest h refl) in
    let is : cs ≡ t.at ++ (u.more ++ rest) = text_is cs (before ++ t ∷ after) o d rest h ∙ ap (λ l. l ++ rest) u.is ∙ append_assoc t.at u.more rest in
    record { more = u.more ++ rest; is = subst (λ (z : List ℕ). cs ≡ z ++ (u.more ++ rest)) at is }

-- two fronts of one length are one
same-front : (a b x y : List ℕ) → a ++ x ≡ b ++ y → length a ≡ length b → a ≡ b
same-front [] [] x y e l = refl
same-front [] (d ∷ b) x y e l = absurd (omega (arith, l))
same-front (c ∷ a) [] x y e l = absurd (omega (arith, l))
same-front (c ∷ a) (d ∷ b) x y e l =
    let head : c ≡ d = cc in
    let tail : a ++ x ≡ b ++ y = cc in
    let rest = same-front a b x y tail (omega (arith, l)) in
    λ i. head i ∷ rest i

one-first : (cs a b : List ℕ) → FirstFault cs a → FirstFault cs b → a ≡ b
one-first cs a b f g =
    let u = fault-begins cs a f.stands in
    let v = fault-begins cs b g.stands in
    let l = f.first b g.stands in
    let m = g.first a f.stands in
    same-front a b u.more v.more (sym u.is ∙ v.is) (omega (arith, l, m))

valid-one : (line : List ℕ) (n m : ℕ) → IsValidUpTo line n → IsValidUpTo line m → n ≡ m
valid-one line n m v w = sym (utf8_valid_len-IsValidUpTo line n v) ∙ utf8_valid_len-IsValidUpTo line m w

abbrev place-of : List ℕ → ℕ
place-of front = length (encode_utf8_all front)

pub one-place : (line : List ℕ) (a b : ℕ) → IsPlace line a → IsPlace line b → a ≡ b
one-place line _ _ (in_text front u f) (in_text other v g) = ap place-of (one-first (chars line) front other f g)
one-place line _ _ (in_text front u f) (in_front n other none v g) = absurd (none u)
one-place line _ _ (in_text front u f) (after_text n none v t) = absurd (none u)
one-place line _ _ (in_front n front none v f) (in_text other u g) = absurd (none u)
one-place line _ _ (in_front n front none v f) (in_front m other none' w g) =
    let same = valid-one line n m v w in
    ap place-of (one-first (chars (take m line)) front other (subst (λ (k : ℕ). FirstFault (chars (take k line)) front) same f) g)
one-place line _ _ (in_front n front none v f) (after_text m none' w t) =
    let same = valid-one line n m v w in
    absurd (never_both (chars (take m line)) front t.toks t.spelled t.keeps (subst (λ (k : ℕ). Fault (chars (take k line)) front) same f.stands))
one-place line _ _ (after_text n none v t) (in_text other u g) = absurd (none u)
one-place line _ _ (after_text n none v t) (in_front m other none' w g) =
    let same = valid-one line n m v w in
    absurd (never_both (chars (take n line)) other t.toks t.spelled t.keeps (subst (λ (k : ℕ). Fault (chars (take k line)) other) (sym same) g.stands))
one-place line _ _ (after_text n none v t) (after_text m none' w s) = valid-one line n m v w
