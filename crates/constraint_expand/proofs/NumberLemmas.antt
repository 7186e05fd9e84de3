-- The places of names in a list.
use Rattle.std.proofs.Common.{ℕ, ◌≡◌, ◌<◌, ◌≤◌, ◌+◌, ◌⊎◌, inl, inr, Bool, true, false, List, [], length, map, take, get_or, slice_index_or, Option, Some, None, String, refl, sym, ◌∙◌, ap, arith}
use Rattle.std.specs.Global.{Global}
use Rattle.std.specs.List.{position}
use Rattle.std.specs.String.{string_bytes}
use Rattle.std.proofs.lemmas.Bool.{cases_order, cases_lt}
use Rattle.std.proofs.lemmas.List.{get_or-map, take_all}
use Rattle.std.proofs.lemmas.Simd.{map-map}
use Rattle.std.proofs.lemmas.List.Quantifiers.{position-Some}
use Rattle.type_hierarchy.specs.Decls.{Name, texts}
use Rattle.type_hierarchy.proofs.SetLemmas.{position_at}
use Rattle.type_facts.proofs.ListLemmas.{true_not_false}

pub text_at : (xs : List (String Global)) (i : ℕ) (x : String Global) → i < length xs → x ≡ get_or xs i x → slice_index_or (texts xs) i [] ≡ string_bytes x
text_at xs i x h e = get_or-map string_bytes xs i x [] h ∙ ap string_bytes (sym e)

pub place_found : (p : Name → Bool) (xs : List Name) (i : ℕ) → i < length xs → ((j : ℕ) → j < i → p (slice_index_or xs j []) ≡ false) → p (slice_index_or xs i []) ≡ true → position p xs ≡ Some i
place_found p xs i h before here =
    let at = position_at p xs i [] h here in
    let r = position-Some p xs at.0 [] at.1 in
    at.1 ∙ ap Some (go at.0 (cases_order at.0 i) r.1 r.2)
  where
    go : (m : ℕ) → (m ≡ i) ⊎ ((m < i) ⊎ (i < m)) → p (slice_index_or xs m []) ≡ true → ((k : ℕ) → k < m → p (slice_index_or xs k []) ≡ false) → m ≡ i
    go m (inl e) t f = e
    go m (inr (inl lt)) t f = true_not_false _ t (before m lt)
    go m (inr (inr lt)) t f = true_not_false _ here (f i lt)

pub place_missing : (p : Name → Bool) (xs : List Name) → ((j : ℕ) → j < length xs → p (slice_index_or xs j []) ≡ false) → position p xs ≡ None
place_missing p xs none = go (position p xs) refl
  where
    go : (o : Option ℕ) → position p xs ≡ o → o ≡ None
    go None e = refl
    go (Some m) e = let r = position-Some p xs m [] e in true_not_false _ r.1 (none m r.0)

pub none_more : (p : Name → Bool) (xs : List Name) (i : ℕ) → ((j : ℕ) → j < i → p (slice_index_or xs j []) ≡ false) → p (slice_index_or xs i []) ≡ false →
    (j : ℕ) → j < i + 1 → p (slice_index_or xs j []) ≡ false
none_more p xs i before here j h = go (cases_lt j i)
  where
    go : (j < i) ⊎ (i ≤ j) → p (slice_index_or xs j []) ≡ false
    go (inl lt) = before j lt
    go (inr le) = let same : j ≡ i = omega arith in ap (λ k. p (slice_index_or xs k [])) same ∙ here

-- what a loop gathered from all elements
pub gathered_all : {X Y Z : Type 0} (g : Y → Z) (f : X → Y) (xs : List X) (i : ℕ) (found : List Z) → length xs ≤ i → found ≡ map (λ x. g (f x)) (take i xs) →
    found ≡ map g (map f xs)
gathered_all g f xs i found past is = is ∙ ap (map (λ x. g (f x))) (take_all i xs past) ∙ sym (map-map g f xs)
