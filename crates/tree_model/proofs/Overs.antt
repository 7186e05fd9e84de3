-- The order of structures.
use Rattle.std.specs.Prelude.{ℕ, ◌≡◌, Bool, true, false, ◌&&◌, Option, Some, None, List, [], ◌∷◌}
use Rattle.std.proofs.Common.{refl, ap}
use Rattle.fs_model.specs.Claims.{System}
use Rattle.tree_model.specs.Structures.{IsPartialOrder, Structure, all_along, over_type, over_equal, over}

pub both : {a b : Bool} → a && b ≡ true → (a ≡ true) × (b ≡ true)
both {a = true} h = (refl, h)
both {a = false} h = absurd (cc)

pub joined : {a b : Bool} → a ≡ true → b ≡ true → a && b ≡ true
joined h k = rw (h, k) refl

module _ {A : Type 0} (test : A → A → Bool) where
  pub along_itself : ((x : A) → test x x ≡ true) → (xs : List A) → all_along test xs xs ≡ true
  along_itself itself [] = refl
  along_itself itself (x ∷ xs) = joined (itself x) (along_itself itself xs)

  pub along_on : ((x y z : A) → test x y ≡ true → test y z ≡ true → test x z ≡ true) → (xs ys zs : List A) → all_along test xs ys ≡ true → all_along test ys zs ≡ true → all_along test xs zs ≡ true
  along_on on [] [] zs h k = k
  along_on on [] (y ∷ ys) zs h k = absurd (cc)
  along_on on (x ∷ xs) [] zs h k = absurd (cc)
  along_on on (x ∷ xs) (y ∷ ys) [] h k = absurd (cc)
  along_on on (x ∷ xs) (y ∷ ys) (z ∷ zs) h k = joined (on x y z (both h).0 (both k).0) (along_on on xs ys zs (both h).1 (both k).1)

  pub along_one : ((x y : A) → test x y ≡ true → test y x ≡ true → x ≡ y) → (xs ys : List A) → all_along test xs ys ≡ true → all_along test ys xs ≡ true → xs ≡ ys
  along_one one [] [] h k = refl
  along_one one [] (y ∷ ys) h k = absurd (cc)
  along_one one (x ∷ xs) [] h k = absurd (cc)
  along_one one (x ∷ xs) (y ∷ ys) h k =
      let e : x ≡ y = one x y (both h).0 (both k).0 in
      let f : xs ≡ ys = along_one one xs ys (both h).1 (both k).1 in
      λ i. e i ∷ f i

equal_itself : (b : Bool) → over_equal b b ≡ true
equal_itself false = refl
equal_itself true = refl

equal_on : (a b c : Bool) → over_equal a b ≡ true → over_equal b c ≡ true → over_equal a c ≡ true
equal_on false b c h k = refl
equal_on true false c h k = absurd (cc)
equal_on true true c h k = k

equal_one : (a b : Bool) → over_equal a b ≡ true → over_equal b a ≡ true → a ≡ b
equal_one false false h k = refl
equal_one false true h k = absurd (cc)
equal_one true false h k = absurd (cc)
equal_one true true h k = refl

module _ (s : System) (o : IsPartialOrder s) where
  type_itself : (t : Option ℕ) → over_type s t t ≡ true
  type_itself None = refl
  type_itself (Some t) = o.reflexive t

  type_on : (t u v : Option ℕ) → over_type s t u ≡ true → over_type s u v ≡ true → over_type s t v ≡ true
  type_on None u v h k = refl
  type_on (Some t) None v h k = absurd (cc)
  type_on (Some t) (Some u) None h k = absurd (cc)
  type_on (Some t) (Some u) (Some v) h k = o.transitive v u t k h

  type_one : (t u : Option ℕ) → over_type s t u ≡ true → over_type s u t ≡ true → t ≡ u
  type_one None None h k = refl
  type_one None (Some u) h k = absurd (cc)
  type_one (Some t) None h k = absurd (cc)
  type_one (Some t) (Some u) h k = ap Some (o.antisymmetric t u k h)

  pub over_itself : (a : Structure) → over s a a ≡ true
  over_itself a = joined (along_itself (over_type s) type_itself a.types) (along_itself over_equal equal_itself a.equal)

  pub over_on : (a b c : Structure) → over s a b ≡ true → over s b c ≡ true → over s a c ≡ true
  over_on a b c h k =
      joined (along_on (over_type s) type_on a.types b.types c.types (both h).0 (both k).0)
      (along_on over_equal equal_on a.equal b.equal c.equal (both h).1 (both k).1)

  pub over_one : (a b : Structure) → over s a b ≡ true → over s b a ≡ true → a ≡ b
  over_one a b h k =
      let t : a.types ≡ b.types = along_one (over_type s) type_one a.types b.types (both h).0 (both k).0 in
      let e : a.equal ≡ b.equal = along_one over_equal equal_one a.equal b.equal (both h).1 (both k).1 in
      λ i. record { types = t i; equal = e i }
