-- Phrase rules by number stand at rising places.
use Rattle.std.specs.Prelude.{◌≡◌, ℕ, ◌<◌, ◌≤◌, ◌+◌, Bool, true, false, List, [], ◌∷◌, if◌then◌else◌, length, map, slice_get, refl}
use Rattle.std.proofs.Common.{zero, suc, arith, ⊎_elim}
use Rattle.std.proofs.lemmas.Bool.{cases_order}
use Rattle.tree_model.specs.Signs.{Signs, Instance, is_phrase_rule, phrase_rules, placed_rules, place_at, rule_system}

low : (p : ℕ) (is : List Instance) (n : ℕ) → n < length (phrase_rules p is) → p ≤ place_at (slice_get (phrase_rules p is) n)
low p [] n h = absurd (omega (arith, h))
low p (i ∷ is) n h = by_kind (is_phrase_rule i.kind) (λ m g. low (p + 1) is m g) n h
  where
    by_kind : (b : Bool) → ((m : ℕ) → m < length (phrase_rules (p + 1) is) → p + 1 ≤ place_at (slice_get (phrase_rules (p + 1) is) m)) → (n : ℕ) →
        n < length (if b then (p, i.rule) ∷ phrase_rules (p + 1) is else phrase_rules (p + 1) is) → p ≤ place_at (slice_get (if b then (p, i.rule) ∷ phrase_rules (p + 1) is else phrase_rules (p + 1) is) n)
    by_kind true go zero g = omega arith
    by_kind true go (suc m) g = let z = go m (omega (arith, g)) in omega (arith, z)
    by_kind false go m g = let z = go m g in omega (arith, z)

rises : (p : ℕ) (is : List Instance) (n m : ℕ) → n < m → m < length (phrase_rules p is) → place_at (slice_get (phrase_rules p is) n) < place_at (slice_get (phrase_rules p is) m)
rises p [] n m l h = absurd (omega (arith, h))
rises p (i ∷ is) n m l h = by_kind (is_phrase_rule i.kind) (λ a b x y. rises (p + 1) is a b x y) (λ a g. low (p + 1) is a g) n m l h
  where
    by_kind : (c : Bool) → ((a b : ℕ) → a < b → b < length (phrase_rules (p + 1) is) → place_at (slice_get (phrase_rules (p + 1) is) a) < place_at (slice_get (phrase_rules (p + 1) is) b)) →
        ((a : ℕ) → a < length (phrase_rules (p + 1) is) → p + 1 ≤ place_at (slice_get (phrase_rules (p + 1) is) a)) → (n m : ℕ) → n < m → m < length (if c then (p, i.rule) ∷ phrase_rules (p + 1) is else phrase_rules (p + 1) is) →
        place_at (slice_get (if c then (p, i.rule) ∷ phrase_rules (p + 1) is else phrase_rules (p + 1) is) n) < place_at (slice_get (if c then (p, i.rule) ∷ phrase_rules (p + 1) is else phrase_rules (p + 1) is) m)
    by_kind true go more n zero l h = absurd (omega (arith, l))
    by_kind true go more zero (suc m) l h = let z = more m (omega (arith, h)) in omega (arith, z)
    by_kind true go more (suc n) (suc m) l h = go n m (omega (arith, l)) (omega (arith, h))
    by_kind false go more n m l h = go n m l h

mapped_length : {A B : Type 0} (f : A → B) (xs : List A) → length (map f xs) ≡ length xs
mapped_length f [] = refl
mapped_length f (x ∷ xs) = omega (arith, mapped_length f xs)

-- two rules of one place are one
pub one_rule : (g : Signs) (q r : ℕ) → q < length (rule_system g).rules → r < length (rule_system g).rules → place_at (slice_get (placed_rules g) q) ≡ place_at (slice_get (placed_rules g) r) → q ≡ r
one_rule g q r h k e =
    let long = mapped_length (λ (x : ℕ × _). x.1) (placed_rules g) in
    ⊎_elim (λ s. s)
    (⊎_elim (λ l. let z = rises 0 g.instances q r l (omega (arith, k, long)) in absurd (omega (arith, z, e)))
    (λ l. let z = rises 0 g.instances r q l (omega (arith, h, long)) in absurd (omega (arith, z, e))))
    (cases_order q r)
