-- Names of coreferences: at their places, and in their form.
use Rattle.std.proofs.Common.{Bor, ◌≡◌, ◌↔◌, ◌∙◌, ℕ, zero, suc, ◌-◌, ◌<◌, ◌≤◌, Bool, true, false, List, [], ◌∷◌, ◌++◌, Some, map, take, drop, refl, ap, sym, subst, length, get_or, arith, IsTrue}
use Rattle.std.specs.List.{slice_get, list_all}
use Rattle.std.specs.Char.{is_ascii_digit}
use Rattle.transfer_rules.specs.Features.{IsCorefName}
use Rattle.transfer_rules.specs.Forms.{letters_in}
use Rattle.transfer_rules.proofs.Written.{is_coref_name, coref_name_parts}

pub get_seen : (xs : List (Bor (List ℕ))) (i : ℕ) (d : Bor (List ℕ)) (n : List ℕ) → i < length xs → (get_or xs i d).now ≡ n → slice_get (map (λ b. b.now) xs) i ≡ Some n
get_seen [] i d n l e = absurd (omega (arith, l))
get_seen (y ∷ xs) zero d n l e = ap Some e
get_seen (y ∷ xs) (suc i) d n l e = get_seen xs i d n (omega (arith, l)) e

pub last_seen : (xs : List (Bor (List ℕ))) (x : Bor (List ℕ)) → slice_get (map (λ b. b.now) (xs ++ x ∷ [])) (length xs) ≡ Some x.now
last_seen [] x = refl
last_seen (y ∷ xs) x = last_seen xs x

take_whole : (xs : List ℕ) (m : ℕ) → length xs ≤ m → take m xs ≡ xs
take_whole [] zero l = refl
take_whole [] (suc m) l = refl
take_whole (x ∷ xs) zero l = absurd (omega (arith, l))
take_whole (x ∷ xs) (suc m) l = ap (λ l. x ∷ l) (take_whole xs m (omega (arith, l)))

left_length : (k : ℕ) (xs : List ℕ) → length (drop k xs) ≤ length xs - k
left_length zero xs = omega arith
left_length (suc k) [] = omega arith
left_length (suc k) (x ∷ xs) = let h = left_length k xs in omega (arith, h)

take_all : (k : ℕ) (xs : List ℕ) → take (length xs - k) (drop k xs) ≡ drop k xs
take_all k xs = take_whole (drop k xs) (length xs - k) (left_length k xs)

pub no_coref : (n : List ℕ) → (IsCorefName n → ⊥) → IsTrue false ↔ IsCorefName n
no_coref n h = (λ (f : IsTrue false). absurd (let z : false ≡ true = f in cc), λ (x : IsCorefName n). absurd (h x))

decided : (n : List ℕ) (k : ℕ) (d : Bool) → k ≤ length n → letters_in n ≡ take k n → (k ≡ 0 → ⊥) → (k ≡ length n → ⊥) → d ≡ list_all is_ascii_digit (drop k n) → IsTrue d ↔ IsCorefName n
decided n k d w e some less f = (
  λ (t : IsTrue d). is_coref_name n k e w (grind (arith, some)) (grind (arith, w, less)) (sym f ∙ t),
  λ (h : IsCorefName n). f ∙ (coref_name_parts n k e w h).2,
)

pub coref_decided : (n b : List ℕ) (k : ℕ) (d : Bool) → b ≡ n → k ≤ length b → letters_in b ≡ take k b → (k ≡ 0 → ⊥) → (k ≡ length b → ⊥) → d ≡ list_all is_ascii_digit (take (length b - k) (drop k b)) → IsTrue d ↔ IsCorefName n
coref_decided n b k d e w l some less f = subst (λ z. IsTrue d ↔ IsCorefName z) e (decided b k d w l some less (f ∙ ap (list_all is_ascii_digit) (take_all k b)))

-- no letters, or nothing but letters
pub no_letters : (n b : List ℕ) (k : ℕ) → b ≡ n → k ≤ length b → letters_in b ≡ take k b → k ≡ 0 → IsTrue false ↔ IsCorefName n
no_letters n b k e w l z = subst (λ z. IsTrue false ↔ IsCorefName z) e (no_coref b (λ (h : IsCorefName b). let p = coref_name_parts b k l w h in let q = p.0 in omega (arith, q, z)))

pub no_digits : (n b : List ℕ) (k : ℕ) → b ≡ n → k ≤ length b → letters_in b ≡ take k b → k ≡ length b → IsTrue false ↔ IsCorefName n
no_digits n b k e w l z = subst (λ z. IsTrue false ↔ IsCorefName z) e (no_coref b (λ (h : IsCorefName b). let p = coref_name_parts b k l w h in let q = p.1 in omega (arith, q, z)))
