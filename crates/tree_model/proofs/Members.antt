-- What lists hold, and lists without repeats.
use Rattle.std.specs.Prelude.{◌≡◌, List, [], ◌∷◌, ◌++◌, map, refl}
use Rattle.std.specs.List.{flat_map}
use Rattle.std.proofs.Common.{subst, sym}
use Rattle.tree_model.specs.Lists.{Has, has_here, has_there, AllDiffer, differ_none, differ_more}

module _ {A : Type 0} where
  pub has_left : {x : A} {xs : List A} (ys : List A) → Has x xs → Has x (xs ++ ys)
  has_left ys has_here = has_here
  has_left ys (has_there h) = has_there (has_left ys h)

  pub has_right : {x : A} (xs : List A) {ys : List A} → Has x ys → Has x (xs ++ ys)
  has_right [] h = h
  has_right (x ∷ xs) h = has_there (has_right xs h)

  pub data Either (x : A) (xs ys : List A) : Type 0 where
    on_left : Has x xs → Either x xs ys
    on_right : Has x ys → Either x xs ys

  either_there : {x y : A} {xs ys : List A} → Either x xs ys → Either x (y ∷ xs) ys
  either_there (on_left h) = on_left (has_there h)
  either_there (on_right h) = on_right h

  pub has_append : {x : A} (xs : List A) {ys : List A} → Has x (xs ++ ys) → Either x xs ys
  has_append [] h = on_right h
  has_append (y ∷ xs) has_here = on_left has_here
  has_append (y ∷ xs) (has_there h) = either_there (has_append xs h)

  pub differ_append : {xs ys : List A} → AllDiffer xs → AllDiffer ys → ((x : A) → Has x xs → Has x ys → ⊥) → AllDiffer (xs ++ ys)
  differ_append differ_none d apart = d
  differ_append {ys = ys} (differ_more {x = x} {xs = xs} not rest) d apart =
      differ_more (λ h. neither not (apart x has_here) (has_append xs h)) (differ_append rest d (λ y h. apart y (has_there h)))
    where
      neither : (Has x xs → ⊥) → (Has x ys → ⊥) → Either x xs ys → ⊥
      neither f g (on_left h) = f h
      neither f g (on_right h) = g h

module _ {A B : Type 0} (f : A → B) where
  pub map_has : {x : A} {xs : List A} → Has x xs → Has (f x) (map f xs)
  map_has has_here = has_here
  map_has (has_there h) = has_there (map_has h)

  pub record From (y : B) (xs : List A) : Type 0 where
    pub source : A
    pub has : Has source xs
    pub is : f source ≡ y

  from_there : {y : B} {x : A} {xs : List A} → From y xs → From y (x ∷ xs)
  from_there r = record { source = r.source; has = has_there r.has; is = r.is }

  has_in : {y : B} (xs : List A) {zs : List B} → Has y zs → zs ≡ map f xs → From y xs
  has_in [] has_here e = absurd (cc)
  has_in [] (has_there h) e = absurd (cc)
  has_in {y = y} (x ∷ xs) (has_here {xs = zs}) e = let p : f x ≡ y = cc in record { source = x; has = has_here; is = p }
  has_in (x ∷ xs) (has_there {xs = zs} h) e = let p : zs ≡ map f xs = cc in from_there (has_in xs h p)

  pub has_map : {y : B} (xs : List A) → Has y (map f xs) → From y xs
  has_map xs h = has_in xs h refl

  -- what differs still differs where the function tells all apart
  pub differ_map : ((a b : A) → f a ≡ f b → a ≡ b) → {xs : List A} → AllDiffer xs → AllDiffer (map f xs)
  differ_map apart differ_none = differ_none
  differ_map apart (differ_more {x = x} {xs = xs} not rest) =
      differ_more (λ h. let r = has_map xs h in not (subst (λ z. Has z xs) (apart r.source x r.is) r.has)) (differ_map apart rest)

  -- of those that differ, each is there once
  pub differ_one : {x y : A} {xs : List A} → AllDiffer (map f xs) → Has x xs → Has y xs → f x ≡ f y → x ≡ y
  differ_one d has_here has_here e = refl
  differ_one {y = y} (differ_more not rest) has_here (has_there {xs = xs} h) e = absurd (not (subst (λ z. Has z (map f xs)) (sym e) (map_has h)))
  differ_one (differ_more not rest) (has_there {xs = xs} h) has_here e = absurd (not (subst (λ z. Has z (map f xs)) e (map_has h)))
  differ_one (differ_more not rest) (has_there g) (has_there h) e = differ_one rest g h e

module _ {A B : Type 0} (f : A → List B) where
  pub flat_has : {x : A} {y : B} {xs : List A} → Has x xs → Has y (f x) → Has y (flat_map f xs)
  flat_has {x = x} (has_here {xs = xs}) h = has_left (flat_map f xs) h
  flat_has (has_there {y = z} g) h = has_right (f z) (flat_has g h)

  pub record Within (y : B) (xs : List A) : Type 0 where
    pub source : A
    pub has : Has source xs
    pub within : Has y (f source)

  within_there : {y : B} {x : A} {xs : List A} → Within y xs → Within y (x ∷ xs)
  within_there r = record { source = r.source; has = has_there r.has; within = r.within }

  within_by : {y : B} {x : A} {xs : List A} → (Has y (flat_map f xs) → Within y xs) → Either y (f x) (flat_map f xs) → Within y (x ∷ xs)
  within_by {x = x} go (on_left g) = record { source = x; has = has_here; within = g }
  within_by go (on_right g) = within_there (go g)

  pub has_flat : {y : B} (xs : List A) → Has y (flat_map f xs) → Within y xs
  has_flat [] h = elim h [ ]
  has_flat (x ∷ xs) h = within_by (has_flat xs) (has_append (f x) h)
