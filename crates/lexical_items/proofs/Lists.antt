-- Lists: where an element stands, and lists by their last element.
use Rattle.std.specs.Prelude.{ℕ, ◌≡◌, ◌<◌, ◌+◌, List, [], ◌∷◌, ◌++◌, length, map}
use Rattle.std.specs.List.{range_with_len}
use Rattle.std.proofs.Common.{inl, inr, refl, ◌∙◌, ap, subst, zero, suc, arith}
use Rattle.fs_model.specs.Claims as claims
use Rattle.lexicon.specs.Words as lists
use Rattle.chart_model.specs.At.{At, here, there}
use Rattle.chart_model.specs.Calculus.{Along, along_none, along_more}
use Rattle.lexical_items.specs.Places.{place_in}

module _ {A : Type 0} where
  pub has_at : (x : A) (xs : List A) → lists.Has x xs → (n : ℕ) × At xs n x
  has_at x [] h = absurd h
  has_at x (y ∷ ys) (inl e) = (0, subst (λ z. At (z ∷ ys) 0 x) e here)
  has_at x (y ∷ ys) (inr h) = let r = has_at x ys h in (suc r.0, there r.1)

  pub at_has : {x : A} {xs : List A} {n : ℕ} → At xs n x → lists.Has x xs
  at_has here = inl refl
  at_has (there a) = inr (at_has a)

  pub claimed : (x : A) (xs : List A) → lists.Has x xs → claims.Has x xs
  claimed x [] h = absurd h
  claimed x (y ∷ ys) (inl e) = subst (λ z. claims.Has x (z ∷ ys)) e claims.here
  claimed x (y ∷ ys) (inr h) = claims.there (claimed x ys h)

  pub unclaimed : {x : A} {xs : List A} → claims.Has x xs → lists.Has x xs
  unclaimed claims.here = inl refl
  unclaimed (claims.there h) = inr (unclaimed h)

  pub snoc_same : (xs ys : List A) (x y : A) → xs ++ x ∷ [] ≡ ys ++ y ∷ [] → (xs ≡ ys) × (x ≡ y)
  snoc_same [] [] x y e = (refl, cc)
  snoc_same [] (z ∷ []) x y e = absurd (cc)
  snoc_same [] (z ∷ w ∷ ys) x y e = absurd (cc)
  snoc_same (z ∷ []) [] x y e = absurd (cc)
  snoc_same (z ∷ w ∷ xs) [] x y e = absurd (cc)
  snoc_same (z ∷ xs) (w ∷ ys) x y e =
      let p : z ≡ w = cc in
      let q : xs ++ x ∷ [] ≡ ys ++ y ∷ [] = cc in
      let r = snoc_same xs ys x y q in
      (λ i. p i ∷ r.0 i, r.1)

  -- a list that isn't empty has a last element
  pub last_of : (xs : List A) → 0 < length xs → (front : List A) × (x : A) × (xs ≡ front ++ x ∷ [])
  last_of [] h = absurd (omega arith)
  last_of (x ∷ []) h = ([], x, refl)
  last_of (x ∷ y ∷ ys) h = let r = last_of (y ∷ ys) (omega arith) in (x ∷ r.0, r.1, ap (λ zs. x ∷ zs) r.2)

pub at_map : {A B : Type 0} (f : A → B) {xs : List A} {n : ℕ} {x : A} → At xs n x → At (map f xs) n (f x)
at_map f here = here
at_map f (there a) = there (at_map f a)

pub at_unmap : {A B : Type 0} (f : A → B) (xs : List A) (n : ℕ) (y : B) → At (map f xs) n y → (x : A) × At xs n x × (f x ≡ y)
at_unmap f [] n y a = elim a [ ]
at_unmap f (x ∷ xs) zero y here = (x, here, refl)
at_unmap f (x ∷ xs) (suc n) y (there a) = let r = at_unmap f xs n y a in (r.0, there r.1, r.2)

pub range_at : (b k n x : ℕ) → At (range_with_len b k) n x → (x ≡ b + n) × (n < k)
range_at b zero n x a = elim a [ ]
range_at b (suc k) zero x here = (omega arith, omega arith)
range_at b (suc k) (suc n) x (there a) = let r = range_at (b + 1) k n x a in (r.0 ∙ omega arith, omega (arith, r.1))

pub range_has : (b k n : ℕ) → n < k → At (range_with_len b k) n (b + n)
range_has b zero n h = absurd (omega arith)
range_has b (suc k) zero h = subst (λ m. At (b ∷ range_with_len (b + 1) k) 0 m) (omega arith) here
range_has b (suc k) (suc n) h = subst (λ m. At (b ∷ range_with_len (b + 1) k) (suc n) m) (omega arith) (there (range_has (b + 1) k n (omega arith)))

-- a number's place is the one that stands there
pub place_at : {places : List ℕ} {n p : ℕ} → At places n p → place_in places n ≡ p
place_at here = refl
place_at (there a) = place_at a

pub places_along : {places : List ℕ} {ns ps : List ℕ} → Along (At places) ns ps → map (place_in places) ns ≡ ps
places_along along_none = refl
places_along (along_more a more) = let e = place_at a in let f = places_along more in λ i. e i ∷ f i

pub along_length : {A B : Type 0} {R : A → B → Type 0} {xs : List A} {ys : List B} → Along R xs ys → length xs ≡ length ys
along_length along_none = refl
along_length (along_more r more) = ap suc (along_length more)

pub length_map : {A B : Type 0} (f : A → B) (xs : List A) → length (map f xs) ≡ length xs
length_map f [] = refl
length_map f (x ∷ xs) = ap suc (length_map f xs)

pub snoc_some : {A : Type 0} (xs : List A) (x : A) → 0 < length (xs ++ x ∷ [])
snoc_some [] x = omega arith
snoc_some (y ∷ xs) x = omega arith
