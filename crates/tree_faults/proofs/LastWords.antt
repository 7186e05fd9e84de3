-- Words that are an entry's but for the last.
use Rattle.std.specs.Prelude.{ℕ, ◌≡◌, ◌<◌, ◌-◌, ◌↔◌, ◌⊎◌, ◌||◌, Bool, true, false, IsTrue, List, [], ◌∷◌, ◌++◌, length, map, take, get_or, String, string_bytes}
use Rattle.std.specs.Global.{Global}
use Rattle.std.specs.List.{list_any}
use Rattle.std.specs.Str.{bytes_eq}
use Rattle.std.proofs.Common.{inl, inr, refl, sym, ◌∙◌, ap, subst, zero, suc, arith}
use Rattle.std.proofs.lemmas.List.{map-append}
use Rattle.lexicon.specs.Words.{Word, Has}
use Rattle.lexicon.proofs.WordLemmas.{true_not_false, bytes_eq-same, bytes_eq-refl}
use Rattle.lexicon.specs.Entries.{same_words}
use Rattle.lexicon.proofs.GroupLemmas.{same_words-same, same_words-refl}
use Rattle.lexical_items.proofs.Lists.{snoc_same}
use Rattle.lexical_items.proofs.Chains.{last_word, last_at}

take_map : {A B : Type 0} (f : A → B) (k : ℕ) (xs : List A) → map f (take k xs) ≡ take k (map f xs)
take_map f zero xs = refl
take_map f (suc k) [] = refl
take_map f (suc k) (x ∷ xs) = ap (λ l. f x ∷ l) (take_map f k xs)

either : (a b : Bool) → (a || b) ≡ true → (b ≡ true) ⊎ (a ≡ true)
either true b e = inr refl
either false b e = inl e

any_one : (w : Word) (xs : List (String Global)) → list_any (λ y. bytes_eq (string_bytes y) w) xs ≡ true → Has w (map string_bytes xs)
any_one w [] e = true_not_false false e refl
any_one w (x ∷ xs) e = go (either (bytes_eq (string_bytes x) w) (list_any (λ y. bytes_eq (string_bytes y) w) xs) e) (any_one w xs)
  where
    go : (list_any (λ y. bytes_eq (string_bytes y) w) xs ≡ true) ⊎ (bytes_eq (string_bytes x) w ≡ true) → (list_any (λ y. bytes_eq (string_bytes y) w) xs ≡ true → Has w (map string_bytes xs)) → Has w (map string_bytes (x ∷ xs))
    go (inl h) k = inr (k h)
    go (inr h) k = inl (sym (bytes_eq-same (string_bytes x) w h))

one_any : (w : Word) (xs : List (String Global)) → Has w (map string_bytes xs) → list_any (λ y. bytes_eq (string_bytes y) w) xs ≡ true
one_any w [] h = absurd h
one_any w (x ∷ xs) (inl e) = let t : bytes_eq (string_bytes x) w ≡ true = bytes_eq-refl (string_bytes x) w (sym e) in rw t refl
one_any w (x ∷ xs) (inr h) = let t = one_any w xs h in rw t (or_true (bytes_eq (string_bytes x) w))
  where
    or_true : (b : Bool) → (b || true) ≡ true
    or_true true = refl
    or_true false = refl

pub is_one : (w : Word) (xs : List (String Global)) (r : Bool) → r ≡ list_any (λ y. bytes_eq (string_bytes y) w) xs → IsTrue r ↔ Has w (map string_bytes xs)
is_one w xs r e = (λ t. any_one w xs (sym e ∙ t), λ h. e ∙ one_any w xs h)

module _ (words said : List (String Global)) (ends : List Word) (x : String Global) (some : 0 < length words) (long : length said ≡ length words) (at : x ≡ get_or said (length words - 1) x) where
  abbrev k : ℕ
  k = length words - 1

  abbrev Front : List Word
  Front = take k (map string_bytes words)

  abbrev IsSaid : Type 0
  IsSaid = (e : Word) × Has e ends × (map string_bytes said ≡ Front ++ e ∷ [])

  split : map string_bytes said ≡ map string_bytes (take k said) ++ string_bytes x ∷ []
  split = last_word string_bytes said k x (omega (arith, some, long)) at

  pub said_yes : (r : Bool) → same_words (map string_bytes (take k said)) (map string_bytes (take k words)) ≡ true → IsTrue r ↔ Has (string_bytes x) ends → IsTrue r ↔ IsSaid
  said_yes r same h = (λ t. (string_bytes x, h.0 t, whole), λ s. h.1 (subst (λ w. Has w ends) (snoc_same Front Front s.0 (string_bytes x) (sym s.2 ∙ whole)).1 s.1))
    where
      whole : map string_bytes said ≡ Front ++ string_bytes x ∷ []
      whole = split ∙ ap (λ l. l ++ string_bytes x ∷ []) (same_words-same _ _ same ∙ take_map string_bytes k words)

pub said_no : (words said : List (String Global)) (ends : List Word) → 0 < length words → length said ≡ length words → same_words (map string_bytes (take (length words - 1) said)) (map string_bytes (take (length words - 1) words)) ≡ false
    → ((e : Word) × Has e ends × (map string_bytes said ≡ take (length words - 1) (map string_bytes words) ++ e ∷ [])) → ⊥
said_no words said ends some long other s =
    let k = length words - 1 in
    let r = last_at said k (omega (arith, some, long)) in
    let split : map string_bytes said ≡ map string_bytes (take k said) ++ string_bytes r.0 ∷ [] = ap (map string_bytes) r.1 ∙ map-append string_bytes (take k said) (r.0 ∷ []) in
    let fronts = (snoc_same (map string_bytes (take k said)) (take k (map string_bytes words)) (string_bytes r.0) s.0 (sym split ∙ s.2)).0 in
    let e : map string_bytes (take k said) ≡ map string_bytes (take k words) = fronts ∙ sym (take_map string_bytes k words) in
    let t : same_words (map string_bytes (take k said)) (map string_bytes (take k words)) ≡ true = ap (λ l. same_words l (map string_bytes (take k words))) e ∙ same_words-refl (map string_bytes (take k words)) in
    true_not_false _ t other
