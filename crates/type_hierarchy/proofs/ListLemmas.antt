-- Laws of lists.
use Rattle.std.proofs.Common.{ℕ, zero, suc, ◌≡◌, ◌≤◌, ◌<◌, ◌+◌, ◌||◌, Bool, true, false, cond, Some, None, List, [], ◌∷◌, length, filter, map, slice_index_or, nat_lt, drop, not, refl, sym, ◌∙◌, ap, arith}
use Rattle.std.specs.List.{list_any, position_or_len, prefix_len}
use Rattle.std.specs.Prelude.{position}
use Rattle.std.proofs.lemmas.List.{length-map, at_drop_more, at_drop_all}

pub list_any-map : {X Y : Type 0} (p : Y → Bool) (f : X → Y) → (xs : List X) → list_any p (map f xs) ≡ list_any (λ x. p (f x)) xs
list_any-map p f [] = refl
list_any-map p f (x ∷ xs) = ap (λ b. p (f x) || b) (list_any-map p f xs)

pub prefix_len-map : {X Y : Type 0} (p : Y → Bool) (f : X → Y) → (xs : List X) → prefix_len p (map f xs) ≡ prefix_len (λ x. p (f x)) xs
prefix_len-map p f [] = refl
prefix_len-map p f (x ∷ xs) = ap (λ n. cond (p (f x)) (1 + n) 0) (prefix_len-map p f xs)

pub position-map : {X Y : Type 0} (p : Y → Bool) (f : X → Y) → (xs : List X) → position p (map f xs) ≡ position (λ x. p (f x)) xs
position-map p f xs =
    ap (λ n. cond (nat_lt n (length (map f xs))) (Some n) None) (prefix_len-map (λ y. not (p y)) f xs)
    ∙ ap (λ m. cond (nat_lt (position_or_len (λ x. p (f x)) xs) m) (Some (position_or_len (λ x. p (f x)) xs)) None) (length-map xs f)

-- a search from the front: the rest answers for the whole
pub any_here : {X : Type 0} (p : X → Bool) (xs : List X) (i : ℕ) (d : X) → i < length xs → list_any p (drop i xs) ≡ list_any p xs →
    p (slice_index_or xs i d) ≡ true → list_any p xs ≡ true
any_here p xs i d h e t = sym e ∙ at_drop_more (list_any p) xs i d h ∙ ap (λ b. b || list_any p (drop (i + 1) xs)) t

pub any_next : {X : Type 0} (p : X → Bool) (xs : List X) (i : ℕ) (d : X) → i < length xs → list_any p (drop i xs) ≡ list_any p xs →
    p (slice_index_or xs i d) ≡ false → list_any p (drop (i + 1) xs) ≡ list_any p xs
any_next p xs i d h e t = sym (at_drop_more (list_any p) xs i d h ∙ ap (λ b. b || list_any p (drop (i + 1) xs)) t) ∙ e

pub any_end : {X : Type 0} (p : X → Bool) (xs : List X) (i : ℕ) → length xs ≤ i → list_any p (drop i xs) ≡ list_any p xs → list_any p xs ≡ false
any_end p xs i h e = sym e ∙ at_drop_all (list_any p) xs i h

-- a test that an element passes
pub any_at : {X : Type 0} (p : X → Bool) (xs : List X) (i : ℕ) (d : X) → i < length xs → p (slice_index_or xs i d) ≡ true → list_any p xs ≡ true
any_at p [] i d h e = absurd (omega arith)
any_at p (x ∷ xs) zero d h e = ap (λ b. b || list_any p xs) e
any_at p (x ∷ xs) (suc i) d h e = ap (λ b. p x || b) (any_at p xs i d (omega arith) e) ∙ or_true (p x)
  where
    or_true : (b : Bool) → (b || true) ≡ true
    or_true true = refl
    or_true false = refl

pub any_none : {X : Type 0} (p q : X → Bool) (none : (x : X) → p x ≡ true → q x ≡ false) → (xs : List X) → list_any p (filter q xs) ≡ false
any_none p q none [] = refl
any_none p q none (x ∷ xs) = go (q x) refl (any_none p q none xs)
  where
    go : (b : Bool) → q x ≡ b → list_any p (filter q xs) ≡ false → list_any p (cond (q x) (x ∷ filter q xs) (filter q xs)) ≡ false
    go false e ih = rw e ih
    go true e ih = rw e (ap (λ b. b || list_any p (filter q xs)) (not_p (p x) refl) ∙ ih)
      where
        not_p : (b : Bool) → p x ≡ b → p x ≡ false
        not_p false k = k
        not_p true k = absurd (bad (sym e ∙ none x k))
          where
            bad : true ≡ false → ⊥
            bad f = cc

pub any_index : {X : Type 0} (p : X → Bool) (d : X) → (xs : List X) → list_any p xs ≡ true → (i : ℕ) × (i < length xs) × (p (slice_index_or xs i d) ≡ true)
any_index p d [] e = cc
any_index p d (x ∷ xs) e = go (any_index p d xs) (p x) refl e
  where
    go : (list_any p xs ≡ true → (i : ℕ) × (i < length xs) × (p (slice_index_or xs i d) ≡ true)) → (b : Bool) → p x ≡ b → (b || list_any p xs) ≡ true →
        (i : ℕ) × (i < length (x ∷ xs)) × (p (slice_index_or (x ∷ xs) i d) ≡ true)
    go ih true f k = (0, omega arith, f)
    go ih false f k = let r = ih k in (suc r.0, omega (arith, r.1), r.2)
