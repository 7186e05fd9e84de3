-- Items whose trees differ.
use Rattle.std.specs.Prelude.{◌≡◌, ℕ, ◌+◌, ◌*◌, List, [], ◌∷◌, ◌++◌, length, map, refl}
use Rattle.std.specs.List.{flat_map}
use Rattle.std.proofs.Common.{subst, sym, arith}
use Rattle.tree_model.specs.Lists.{Has, has_here, has_there, AllDiffer, differ_none, differ_more, Item}
use Rattle.tree_model.proofs.Members.{Either, on_left, on_right, has_append, has_left, has_right, has_map, map_has}
use Rattle.tree_model.proofs.Making.{trees_in}

module _ {V : Type 0} where
  pub data Apart : List (Item V) → Type 0 where
    apart_none : Apart []
    apart_more : {x : Item V} {xs : List (Item V)} → ((y : Item V) → Has y xs → x.tree ≡ y.tree → ⊥) → Apart xs → Apart (x ∷ xs)

  -- no tree of the ones is one of the others
  abbrev pub Between : List (Item V) → List (Item V) → Type 0
  Between xs ys = (x y : Item V) → Has x xs → Has y ys → x.tree ≡ y.tree → ⊥

  by_either : {xs ys : List (Item V)} (x y : Item V) → (Has y xs → x.tree ≡ y.tree → ⊥) → (Has y ys → x.tree ≡ y.tree → ⊥) → Either y xs ys → x.tree ≡ y.tree → ⊥
  by_either x y f g (on_left h) = f h
  by_either x y f g (on_right h) = g h

  pub apart_append : {xs ys : List (Item V)} → Apart xs → Apart ys → Between xs ys → Apart (xs ++ ys)
  apart_append apart_none b between = b
  apart_append {ys = ys} (apart_more {x = x} {xs = xs} not rest) b between =
      apart_more (λ y h. by_either {xs = xs} {ys = ys} x y (not y) (λ g. between x y has_here g) (has_append xs h)) (apart_append rest b (λ z y h. between z y (has_there h)))

  pub apart_left : (xs ys : List (Item V)) → Apart (xs ++ ys) → Apart xs
  apart_left [] ys a = apart_none
  apart_left (x ∷ xs) ys (apart_more not rest) = apart_more (λ y h. not y (has_left ys h)) (apart_left xs ys rest)

  pub apart_right : (xs ys : List (Item V)) → Apart (xs ++ ys) → Apart ys
  apart_right [] ys a = a
  apart_right (x ∷ xs) ys (apart_more not rest) = apart_right xs ys rest

  pub apart_between : (xs ys : List (Item V)) → Apart (xs ++ ys) → Between xs ys
  apart_between [] ys a x y h g e = elim h [ ]
  apart_between (z ∷ xs) ys (apart_more not rest) _ y has_here g e = not y (has_right xs g) e
  apart_between (z ∷ xs) ys (apart_more not rest) x y (has_there h) g e = apart_between xs ys rest x y h g e

  pub apart_differ : {xs : List (Item V)} → Apart xs → AllDiffer (trees_in xs)
  apart_differ apart_none = differ_none
  apart_differ (apart_more {x = x} {xs = xs} not rest) = differ_more (λ h. let r = has_map (λ (i : Item V). i.tree) xs h in not r.source r.has (sym r.is)) (apart_differ rest)

  pub differ_apart : (xs : List (Item V)) → AllDiffer (trees_in xs) → Apart xs
  differ_apart [] d = apart_none
  differ_apart (x ∷ xs) (differ_more not rest) =
      apart_more (λ y h e. not (subst (λ t. Has t (trees_in xs)) (sym e) (map_has (λ (i : Item V). i.tree) h))) (differ_apart xs rest)

-- how many choices there are
pub length_append : {A : Type 0} (xs ys : List A) → length (xs ++ ys) ≡ length xs + length ys
length_append [] ys = omega arith
length_append (x ∷ xs) ys = let e = length_append xs ys in omega (arith, e)

pub length_map : {A B : Type 0} (f : A → B) (xs : List A) → length (map f xs) ≡ length xs
length_map f [] = refl
length_map f (x ∷ xs) = let e = length_map f xs in omega (arith, e)

times_more : (n m : ℕ) → (n + 1) * m ≡ m + n * m
times_more n m = omega arith

pub length_spread : {A : Type 0} (xs : List A) (cs : List (List A)) → length (flat_map (λ x. map (λ qs. x ∷ qs) cs) xs) ≡ length xs * length cs
length_spread [] cs = omega arith
length_spread (x ∷ xs) cs =
    let a = length_append (map (λ qs. x ∷ qs) cs) (flat_map (λ y. map (λ qs. y ∷ qs) cs) xs) in
    let b = length_map (λ qs. x ∷ qs) cs in
    let c = length_spread xs cs in
    let d = times_more (length xs) (length cs) in
    omega (arith, a, b, c, d)
