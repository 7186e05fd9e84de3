-- Lists, and what they have.
use Rattle.std.proofs.Common.{ℕ, zero, suc, ◌≡◌, ◌<◌, ◌≤◌, ◌+◌, ◌⊎◌, inl, inr, Bool, true, false, cond, ◌||◌, ◌==◌, List, [], ◌∷◌, ◌++◌, length, map, take, drop, get_or, refl, sym, ◌∙◌, ap, subst, arith}
use Rattle.std.specs.List.{flat_map, list_any}
use Rattle.std.proofs.lemmas.Bool.Decides.{Decides-eqb}
use Rattle.std.proofs.lemmas.List.{take_more, take_all, map-append}
use Rattle.lexicon.specs.Words.{Has, Each}

pub bools : (b : Bool) → (b ≡ true) ⊎ (b ≡ false)
bools true = inl refl
bools false = inr refl

pub true_not_false : {A : Type 0} (b : Bool) → b ≡ true → b ≡ false → A
true_not_false b t f = let e : true ≡ false = sym t ∙ f in cc

pub same_eq : (a b : ℕ) → a ≡ b → (a == b) ≡ true
same_eq a b = (Decides-eqb a b).1

pub eq_same : (a b : ℕ) → (a == b) ≡ true → a ≡ b
eq_same a b = (Decides-eqb a b).0

pub drop_at : {A : Type 0} (xs : List A) (i : ℕ) (x : A) → i < length xs → x ≡ get_or xs i x → drop i xs ≡ x ∷ drop (i + 1) xs
drop_at [] i x lt e = absurd (omega arith)
drop_at (y ∷ ys) zero x lt e = ap (λ z. z ∷ ys) (sym e)
drop_at (y ∷ ys) (suc i) x lt e = drop_at ys i x (omega arith) e ∙ ap (λ k. x ∷ drop k (y ∷ ys)) (let k : suc (i + 1) ≡ suc i + 1 = omega arith in k)

pub drop_map_at : {A B : Type 0} (f : A → B) (xs : List A) (i : ℕ) (x : A) → i < length xs → x ≡ get_or xs i x → drop i (map f xs) ≡ f x ∷ drop (i + 1) (map f xs)
drop_map_at f [] i x lt e = absurd (omega arith)
drop_map_at f (y ∷ ys) zero x lt e = ap (λ z. f z ∷ map f ys) (sym e)
drop_map_at f (y ∷ ys) (suc i) x lt e = drop_map_at f ys i x (omega arith) e ∙ ap (λ k. f x ∷ drop k (map f (y ∷ ys))) (let k : suc (i + 1) ≡ suc i + 1 = omega arith in k)

pub Has-left : {A : Type 0} (x : A) (xs ys : List A) → Has x xs → Has x (xs ++ ys)
Has-left x [] ys h = absurd h
Has-left x (y ∷ xs) ys (inl e) = inl e
Has-left x (y ∷ xs) ys (inr h) = inr (Has-left x xs ys h)

pub Has-right : {A : Type 0} (x : A) (xs ys : List A) → Has x ys → Has x (xs ++ ys)
Has-right x [] ys h = h
Has-right x (y ∷ xs) ys h = inr (Has-right x xs ys h)

pub Has-either : {A : Type 0} (x : A) (xs ys : List A) → Has x (xs ++ ys) → Has x xs ⊎ Has x ys
Has-either x [] ys h = inr h
Has-either x (y ∷ xs) ys (inl e) = inl (inl e)
Has-either x (y ∷ xs) ys (inr h) = elim (Has-either x xs ys h) [ inl k ↦ inl (inr k) | inr k ↦ inr k ]

pub Has-map : {A B : Type 0} (f : A → B) (x : A) (xs : List A) → Has x xs → Has (f x) (map f xs)
Has-map f x [] h = absurd h
Has-map f x (y ∷ xs) (inl e) = inl (ap f e)
Has-map f x (y ∷ xs) (inr h) = inr (Has-map f x xs h)

pub Has-flat_map : {A B : Type 0} (h : A → List B) (x : A) (y : B) (xs : List A) → Has x xs → Has y (h x) → Has y (flat_map h xs)
Has-flat_map h x y [] p q = absurd p
Has-flat_map h x y (z ∷ xs) (inl e) q = Has-left y (h z) (flat_map h xs) (subst (λ w. Has y (h w)) e q)
Has-flat_map h x y (z ∷ xs) (inr p) q = Has-right y (h z) (flat_map h xs) (Has-flat_map h x y xs p q)

pub Each-at : {A : Type 0} (P : A → Type 0) (x : A) (xs : List A) → Each P xs → Has x xs → P x
Each-at P x [] e h = absurd h
Each-at P x (y ∷ xs) e (inl q) = subst P (sym q) e.0
Each-at P x (y ∷ xs) e (inr h) = Each-at P x xs e.1 h

pub Each-take : {A : Type 0} (P : A → Type 0) (xs : List A) (i : ℕ) (x : A) → Each P xs → i < length xs → x ≡ get_or xs i x → P x
Each-take P [] i x e lt q = absurd (omega arith)
Each-take P (y ∷ ys) zero x e lt q = subst P (sym q) e.0
Each-take P (y ∷ ys) (suc i) x e lt q = Each-take P ys i x e.1 (omega arith) q

pub any-map : {A B : Type 0} (p : B → Bool) (f : A → B) (xs : List A) → list_any p (map f xs) ≡ list_any (λ x. p (f x)) xs
any-map p f [] = refl
any-map p f (x ∷ xs) = ap (λ b. p (f x) || b) (any-map p f xs)

pub member-Has : (x : ℕ) (xs : List ℕ) → Has x xs → list_any (λ y. y == x) xs ≡ true
member-Has x [] h = absurd h
member-Has x (y ∷ ys) (inl e) = ap (λ b. b || list_any (λ z. z == x) ys) (same_eq y x (sym e))
member-Has x (y ∷ ys) (inr h) = go (bools (y == x)) (member-Has x ys h)
  where
    go : ((y == x) ≡ true) ⊎ ((y == x) ≡ false) → list_any (λ z. z == x) ys ≡ true → list_any (λ z. z == x) (y ∷ ys) ≡ true
    go (inl e) k = ap (λ b. b || list_any (λ z. z == x) ys) e
    go (inr e) k = ap (λ b. b || list_any (λ z. z == x) ys) e ∙ k

pub Has-member : (x : ℕ) (xs : List ℕ) → list_any (λ y. y == x) xs ≡ true → Has x xs
Has-member x [] e = absurd (true_not_false false e refl)
Has-member x (y ∷ ys) e = go (bools (y == x)) (Has-member x ys)
  where
    go : ((y == x) ≡ true) ⊎ ((y == x) ≡ false) → (list_any (λ z. z == x) ys ≡ true → Has x ys) → Has x (y ∷ ys)
    go (inl t) k = inl (sym (eq_same y x t))
    go (inr f) k = inr (k (sym (ap (λ b. b || list_any (λ z. z == x) ys) f) ∙ e))

pub take_next : {A : Type 0} (xs : List A) (i : ℕ) (x : A) → i < length xs → x ≡ get_or xs i x → take (i + 1) xs ≡ take i xs ++ x ∷ []
take_next xs i x lt e = take_more xs i x lt ∙ ap (λ y. take i xs ++ y ∷ []) (sym e)

pub map_take_next : {A B : Type 0} (f : A → B) (xs : List A) (i : ℕ) (x : A) → i < length xs → x ≡ get_or xs i x → map f (take (i + 1) xs) ≡ map f (take i xs) ++ f x ∷ []
map_take_next f xs i x lt e = ap (map f) (take_next xs i x lt e) ∙ map-append f (take i xs) (x ∷ [])

pub drop_nat : (xs : List ℕ) (i : ℕ) → i < length xs → drop i xs ≡ get_or xs i 0 ∷ drop (i + 1) xs
drop_nat [] i lt = absurd (omega arith)
drop_nat (y ∷ ys) zero lt = refl
drop_nat (y ∷ ys) (suc i) lt = drop_nat ys i (omega arith) ∙ ap (λ k. get_or ys i 0 ∷ drop k (y ∷ ys)) (let k : suc (i + 1) ≡ suc i + 1 = omega arith in k)

pub Has-at : {A B : Type 0} (f : A → B) (xs : List A) (i : ℕ) (x : A) (y : B) → i < length xs → x ≡ get_or xs i x → f x ≡ y → Has y (map f xs)
Has-at f [] i x y lt e q = absurd (omega arith)
Has-at f (z ∷ zs) zero x y lt e q = inl (sym q ∙ ap f e)
Has-at f (z ∷ zs) (suc i) x y lt e q = inr (Has-at f zs i x y (omega arith) e q)

pub Has-snoc : {A : Type 0} (x y : A) (xs : List A) → Has x (xs ++ y ∷ []) → Has x xs ⊎ (x ≡ y)
Has-snoc x y xs h = elim (Has-either x xs (y ∷ []) h) [ inl k ↦ inl k | inr k ↦ inr (only k) ]
  where
    only : Has x (y ∷ []) → x ≡ y
    only (inl e) = e
    only (inr e) = absurd e

-- what one more turn of a loop has
pub Has-next : {A B : Type 0} (f : A → B) (xs : List A) (i : ℕ) (x : A) (y : B) → i < length xs → x ≡ get_or xs i x → Has y (map f (take (i + 1) xs)) → Has y (map f (take i xs)) ⊎ (y ≡ f x)
Has-next f xs i x y lt e h = Has-snoc y (f x) (map f (take i xs)) (subst (Has y) (map_take_next f xs i x lt e) h)

-- the list that a loop has gone over at its end
pub all_taken : {A : Type 0} (xs : List A) (i : ℕ) → length xs ≤ i → take i xs ≡ xs
all_taken xs i le = take_all i xs le

pub empty_list : {A : Type 0} (xs : List A) (n : ℕ) → n ≡ length xs → (n == 0) ≡ true → xs ≡ []
empty_list [] n e z = refl
empty_list (x ∷ xs) n e z = let k : n ≡ 0 = eq_same n 0 z in absurd (omega arith)

pub filled : {A : Type 0} (xs : List A) (n : ℕ) → n ≡ length xs → (n == 0) ≡ false → 0 < length xs
filled [] n e z = true_not_false (n == 0) (same_eq n 0 e) z
filled (x ∷ xs) n e z = omega arith

-- what holds of each element that a loop has gone over
pub Each-next : {A B : Type 0} (P : B → Type 0) (f : A → B) (xs : List A) (i : ℕ) (x : A) → i < length xs → x ≡ get_or xs i x → P (f x) → Each P (map f (take i xs)) → Each P (map f (take (i + 1) xs))
Each-next P f xs i x lt e p h = subst (Each P) (sym (map_take_next f xs i x lt e)) (snoc (map f (take i xs)) h)
  where
    snoc : (ys : List _) → Each P ys → Each P (ys ++ f x ∷ [])
    snoc [] k = (p, tt)
    snoc (y ∷ ys) k = (k.0, snoc ys k.1)

pub Each-all : {A B : Type 0} (P : B → Type 0) (f : A → B) (xs : List A) (i : ℕ) → length xs ≤ i → Each P (map f (take i xs)) → Each P (map f xs)
Each-all P f xs i le h = subst (λ l. Each P (map f l)) (all_taken xs i le) h

pub Each-mapped : {A B : Type 0} (P : B → Type 0) (f : A → B) (xs : List A) (i : ℕ) (x : A) → Each P (map f xs) → i < length xs → x ≡ get_or xs i x → P (f x)
Each-mapped P f [] i x e lt q = absurd (omega arith)
Each-mapped P f (y ∷ ys) zero x e lt q = subst (λ z. P (f z)) (sym q) e.0
Each-mapped P f (y ∷ ys) (suc i) x e lt q = Each-mapped P f ys i x e.1 (omega arith) q
