-- The places of names in a list.
use Rattle.std.proofs.Common.{ℕ, zero, suc, ◌≡◌, ◌<◌, ◌≤◌, ◌+◌, ◌⊎◌, inl, inr, Bool, true, false, List, [], ◌∷◌, length, map, get_or, Option, Some, None, String, refl, sym, ◌∙◌, ap, arith}
use Rattle.std.specs.Global.{Global}
use Rattle.std.specs.List.{position}
use Rattle.std.specs.String.{string_bytes}
use Rattle.std.proofs.lemmas.Bool.{cases_order, cases_lt}
use Rattle.std.proofs.lemmas.List.{get_or-map}
use Rattle.std.proofs.lemmas.List.Quantifiers.{position-Some}
use Rattle.type_hierarchy.proofs.SetLemmas.{position_at}
use Rattle.lexicon.specs.Words.{Word}

clash : {A : Type 0} (b : Bool) → b ≡ true → b ≡ false → A
clash b t f = let e : true ≡ false = sym t ∙ f in cc

pub text_at : (xs : List (String Global)) (i : ℕ) (x : String Global) → i < length xs → x ≡ get_or xs i x → get_or (map string_bytes xs) i [] ≡ string_bytes x
text_at xs i x h e = get_or-map string_bytes xs i x [] h ∙ ap string_bytes (sym e)

pub place_found : (p : Word → Bool) (xs : List Word) (i : ℕ) → i < length xs → ((j : ℕ) → j < i → p (get_or xs j []) ≡ false) → p (get_or xs i []) ≡ true → position p xs ≡ Some i
place_found p xs i h before here =
    let at = position_at p xs i [] h here in
    let r = position-Some p xs at.0 [] at.1 in
    at.1 ∙ ap Some (go at.0 (cases_order at.0 i) r.1 r.2)
  where
    go : (m : ℕ) → (m ≡ i) ⊎ ((m < i) ⊎ (i < m)) → p (get_or xs m []) ≡ true → ((k : ℕ) → k < m → p (get_or xs k []) ≡ false) → m ≡ i
    go m (inl e) t f = e
    go m (inr (inl lt)) t f = clash (p (get_or xs m [])) t (before m lt)
    go m (inr (inr lt)) t f = clash (p (get_or xs i [])) here (f i lt)

pub place_missing : (p : Word → Bool) (xs : List Word) → ((j : ℕ) → j < length xs → p (get_or xs j []) ≡ false) → position p xs ≡ None
place_missing p xs none = go (position p xs) refl
  where
    go : (o : Option ℕ) → position p xs ≡ o → o ≡ None
    go None e = refl
    go (Some m) e = let r = position-Some p xs m [] e in clash (p (get_or xs m [])) r.1 (none m r.0)

pub none_more : (p : Word → Bool) (xs : List Word) (i : ℕ) → ((j : ℕ) → j < i → p (get_or xs j []) ≡ false) → p (get_or xs i []) ≡ false → (j : ℕ) → j < i + 1 → p (get_or xs j []) ≡ false
none_more p xs i before here j h = go (cases_lt j i)
  where
    go : (j < i) ⊎ (i ≤ j) → p (get_or xs j []) ≡ false
    go (inl lt) = before j lt
    go (inr le) = let same : j ≡ i = omega arith in ap (λ k. p (get_or xs k [])) same ∙ here
