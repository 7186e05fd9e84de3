-- Places of lists.
use Rattle.std.specs.Prelude.{◌≡◌, ℕ, ◌<◌, List, [], ◌∷◌, ◌++◌, length, map, refl}
use Rattle.std.proofs.Common.{zero, suc, get_or, arith}
use Rattle.chart_model.specs.At.{At, here, there}
use Rattle.chart_model.specs.Calculus.{Along, along_none, along_more}

module _ {A : Type 0} where
  pub at_or : {xs : List A} {i : ℕ} {x : A} → At xs i x → (d : A) → get_or xs i d ≡ x
  at_or here d = refl
  at_or (there a) d = at_or a d

  pub or_at : (xs : List A) (i : ℕ) (d : A) → i < length xs → At xs i (get_or xs i d)
  or_at [] i d low = absurd (omega arith)
  or_at (x ∷ xs) zero d low = here
  or_at (x ∷ xs) (suc i) d low = there (or_at xs i d (omega arith))

module _ {A B : Type 0} (f : A → B) where
  pub at_map : {xs : List A} {i : ℕ} {x : A} → At xs i x → At (map f xs) i (f x)
  at_map here = here
  at_map (there a) = there (at_map a)

  pub map_at : (xs : List A) (i : ℕ) (y : B) → At (map f xs) i y → (x : A) × At xs i x × (f x ≡ y)
  map_at [] i y a = elim a [ ]
  map_at (x ∷ xs) _ _ here = (x, here, refl)
  map_at (x ∷ xs) (suc i) y (there a) = let r = map_at xs i y a in (r.0, there r.1, r.2)

module _ {A B : Type 0} {R : A → B → Type 0} where
  pub along_at : {xs : List A} {ys : List B} {i : ℕ} {x : A} → Along R xs ys → At xs i x → (y : B) × At ys i y × R x y
  along_at along_none a = elim a [ ]
  along_at {ys = y ∷ ys} (along_more r rs) here = (y, here, r)
  along_at (along_more r rs) (there a) = let z = along_at rs a in (z.0, there z.1, z.2)

  pub along_back : {xs : List A} {ys : List B} {i : ℕ} {y : B} → Along R xs ys → At ys i y → (x : A) × At xs i x × R x y
  along_back along_none a = elim a [ ]
  along_back {xs = x ∷ xs} (along_more r rs) here = (x, here, r)
  along_back (along_more r rs) (there a) = let z = along_back rs a in (z.0, there z.1, z.2)

  pub along_snoc : {xs : List A} {ys : List B} (x : A) (y : B) → Along R xs ys → R x y → Along R (xs ++ x ∷ []) (ys ++ y ∷ [])
  along_snoc x y along_none r = along_more r along_none
  along_snoc x y (along_more a bs) r = along_more a (along_snoc x y bs r)

module _ {A B C : Type 0} {R : A → B → Type 0} {S : A → C → Type 0} {T : B → C → Type 0} where
  -- what stands along one list on both sides stands along the other
  pub along_both : (f : (a : A) (b : B) (c : C) → R a b → S a c → T b c) {xs : List A} {ys : List B} {zs : List C} → Along R xs ys → Along S xs zs → Along T ys zs
  along_both f along_none along_none = along_none
  along_both f (along_more r rs) (along_more s ss) = along_more (f _ _ _ r s) (along_both f rs ss)

module _ {A B : Type 0} {R S : A → B → Type 0} where
  pub along_as : (f : (a : A) (b : B) → R a b → S a b) {xs : List A} {ys : List B} → Along R xs ys → Along S xs ys
  along_as f along_none = along_none
  along_as f (along_more r rs) = along_more (f _ _ r) (along_as f rs)

  pub along_turned : (f : (a : A) (b : B) → R a b → S a b) {xs : List A} {ys : List B} → Along R xs ys → Along (λ b a. S a b) ys xs
  along_turned f along_none = along_none
  along_turned f (along_more r rs) = along_more (f _ _ r) (along_turned f rs)

module _ {A B : Type 0} {R : A → B → Type 0} where
  -- a relation that gives one element gives one list
  pub along_one : (one : (a a' : A) (b : B) → R a b → R a' b → a ≡ a') {xs xs' : List A} {ys : List B} → Along R xs ys → Along R xs' ys → xs ≡ xs'
  along_one one along_none along_none = refl
  along_one one (along_more {x = x} {xs = xs} r rs) (along_more {x = y} {xs = ys} s ss) =
      let e = one _ _ _ r s in
      let es = along_one one rs ss in
      cc

  pub along_same : (one : (a : A) (b b' : B) → R a b → R a b' → b ≡ b') {xs : List A} {ys ys' : List B} → Along R xs ys → Along R xs ys' → ys ≡ ys'
  along_same one along_none along_none = refl
  along_same one (along_more r rs) (along_more s ss) =
      let e = one _ _ _ r s in
      let es = along_same one rs ss in
      cc

  -- along a list made of another
  pub along_mapped : {X : Type 0} (f : X → A) (xs : List X) (ys : List B) → Along (λ x y. R (f x) y) xs ys → Along R (map f xs) ys
  along_mapped f _ _ along_none = along_none
  along_mapped f _ _ (along_more r rs) = along_more r (along_mapped f _ _ rs)
