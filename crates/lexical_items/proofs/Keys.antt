-- Lists in which each key of a set has one element.
use Rattle.std.specs.Prelude.{ℕ, ◌≡◌, ◌⊎◌, ◌<◌, ◌+◌, List, [], ◌∷◌, ◌++◌, length, map}
use Rattle.std.proofs.Common.{inl, inr, refl, sym, ◌∙◌, ap, subst, zero, suc, arith, take, get_or}
use Rattle.std.proofs.lemmas.List.{append-nil, append_assoc}
use Rattle.lexicon.specs.Words.{Has}
use Rattle.chart_model.specs.At.{At, here, there, at_append}
use Rattle.lexical_items.specs.Inner.Keyed.{AreOf, Adds}

module _ {X : Type 0} where
  -- in which of two lists an element stands
  pub data Side (xs ys : List X) (n : ℕ) (x : X) : Type 0 where
    left : At xs n x → Side xs ys n x
    right : (m : ℕ) → n ≡ length xs + m → At ys m x → Side xs ys n x

  side_there : {xs ys : List X} {n : ℕ} {x : X} (z : X) → Side xs ys n x → Side (z ∷ xs) ys (suc n) x
  side_there z (left a) = left (there a)
  side_there z (right m e a) = right m (omega (arith, e)) a

  pub side : (xs ys : List X) (n : ℕ) (x : X) → At (xs ++ ys) n x → Side xs ys n x
  side [] ys n x a = right n (omega arith) a
  side (z ∷ xs) ys zero x here = left here
  side (z ∷ xs) ys (suc n) x (there a) = side_there z (side xs ys n x a)

  pub at_right : (xs ys : List X) (m : ℕ) (x : X) → At ys m x → At (xs ++ ys) (length xs + m) x
  at_right [] ys m x a = subst (λ i. At ys i x) (let e : m ≡ 0 + m = omega arith in e) a
  at_right (z ∷ xs) ys m x a = subst (λ i. At (z ∷ xs ++ ys) i x) (let e : suc (length xs + m) ≡ length (z ∷ xs) + m = omega arith in e) (there (at_right xs ys m x a))

-- what has come is at a place before the next
pub taken_at : {A B : Type 0} (f : A → B) (xs : List A) (i : ℕ) (y : B) → Has y (map f (take i xs)) → (j : ℕ) × (j < i) × At (map f xs) j y
taken_at f [] zero y h = absurd h
taken_at f [] (suc i) y h = absurd h
taken_at f (x ∷ xs) zero y h = absurd h
taken_at f (x ∷ xs) (suc i) y (inl e) = (0, omega arith, subst (λ z. At (f x ∷ map f xs) 0 z) (sym e) here)
taken_at f (x ∷ xs) (suc i) y (inr h) = let r = taken_at f xs i y h in (suc r.0, omega (arith, r.1), there r.2)

pub item_at : {A B : Type 0} (f : A → B) (xs : List A) (i : ℕ) (x : A) → i < length xs → x ≡ get_or xs i x → At (map f xs) i (f x)
item_at f [] i x lt e = absurd (omega (arith, lt))
item_at f (y ∷ ys) zero x lt e = subst (λ z. At (f y ∷ map f ys) 0 (f z)) (sym e) here
item_at f (y ∷ ys) (suc i) x lt e = there (item_at f ys i x (omega (arith, lt)) e)

module _ {K X : Type 0} (Is : K → X → Type 0) where
  pub of_none : (D : K → Type 0) → ((k : K) → D k → ⊥) → AreOf Is D []
  of_none D never = record { each = λ n x a. elim a [ ]; all = λ k d. absurd (never k d); once = λ n m x y k a b p q. elim a [ ] }

  pub of_one : (D : K → Type 0) (k : K) (x : X) → D k → Is k x → ((j : K) → D j → j ≡ k) → AreOf Is D (x ∷ [])
  of_one D k x d is only = record {
    each = each;
    all = λ j e. (0, x, here, subst (λ i. Is i x) (sym (only j e)) is);
    once = λ n m y z j a b p q. once n m y z a b;
  }
    where
      each : (n : ℕ) (y : X) → At (x ∷ []) n y → (j : K) × D j × Is j y
      each zero y here = (k, d, is)
      each (suc n) y (there a) = elim a [ ]

      once : (n m : ℕ) (y z : X) → At (x ∷ []) n y → At (x ∷ []) m z → n ≡ m
      once zero zero y z here here = refl
      once zero (suc m) y z here (there b) = elim b [ ]
      once (suc n) m y z (there a) b = elim a [ ]

  pub of_like : (D E : K → Type 0) (xs : List X) → ((k : K) → D k → E k) → ((k : K) → E k → D k) → AreOf Is D xs → AreOf Is E xs
  of_like D E xs f h a = record { each = λ n x p. let r = a.each n x p in (r.0, f r.0 r.1, r.2); all = λ k e. a.all k (h k e); once = a.once }

  module _ (one : (j k : K) (x : X) → Is j x → Is k x → j ≡ k) where
    pub of_both : (D E F : K → Type 0) (xs ys : List X) → ((k : K) → D k → E k → ⊥) → ((k : K) → D k → F k) → ((k : K) → E k → F k) → ((k : K) → F k → D k ⊎ E k) → AreOf Is D xs → AreOf Is E ys → AreOf Is F (xs ++ ys)
    of_both D E F xs ys apart first second split a b = record {
      each = λ n x p. each n x (side xs ys n x p);
      all = λ k f. elim (split k f) [ inl d ↦ (let r = a.all k d in (r.0, r.1, at_append ys r.2, r.3)) | inr e ↦ (let r = b.all k e in (length xs + r.0, r.1, at_right xs ys r.0 r.1 r.2, r.3)) ];
      once = λ n m x y k p q i j. once n m x y k (side xs ys n x p) (side xs ys m y q) i j;
    }
      where
        each : (n : ℕ) (x : X) → Side xs ys n x → (k : K) × F k × Is k x
        each n x (left p) = let r = a.each n x p in (r.0, first r.0 r.1, r.2)
        each n x (right m e p) = let r = b.each m x p in (r.0, second r.0 r.1, r.2)

        never : (n m : ℕ) (x y : X) (k : K) → At xs n x → At ys m y → Is k x → Is k y → ⊥
        never n m x y k p q i j =
            let r = a.each n x p in
            let t = b.each m y q in
            apart k (subst D (one r.0 k x r.2 i) r.1) (subst E (one t.0 k y t.2 j) t.1)

        once : (n m : ℕ) (x y : X) (k : K) → Side xs ys n x → Side xs ys m y → Is k x → Is k y → n ≡ m
        once n m x y k (left p) (left q) i j = a.once n m x y k p q i j
        once n m x y k (left p) (right l e q) i j = absurd (never n l x y k p q i j)
        once n m x y k (right l e p) (left q) i j = absurd (never m l y x k q p j i)
        once n m x y k (right l e p) (right o f q) i j = e ∙ ap (λ z. length xs + z) (b.once l o x y k p q i j) ∙ sym f

    pub adds_more : (D E F : K → Type 0) (old cur new ys : List X) → ((k : K) → D k → E k → ⊥) → ((k : K) → D k → F k) → ((k : K) → E k → F k) → ((k : K) → F k → D k ⊎ E k) → Adds Is D old cur → new ≡ cur ++ ys → AreOf Is E ys → Adds Is F old new
    adds_more D E F old cur new ys apart first second split a e b = record {
      more = a.more ++ ys;
      is = e ∙ ap (λ l. l ++ ys) a.is ∙ append_assoc old a.more ys;
      are = of_both D E F a.more ys apart first second split a.are b;
    }

  pub adds_start : (D : K → Type 0) (xs : List X) → ((k : K) → D k → ⊥) → Adds Is D xs xs
  adds_start D xs never = record { more = []; is = sym (append-nil xs); are = of_none D never }

  pub adds_like : (D E : K → Type 0) (old new : List X) → ((k : K) → D k → E k) → ((k : K) → E k → D k) → Adds Is D old new → Adds Is E old new
  adds_like D E old new f h a = record { more = a.more; is = a.is; are = of_like D E a.more f h a.are }
