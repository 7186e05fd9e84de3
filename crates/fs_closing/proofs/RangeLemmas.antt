-- Numbers up to a limit that pass a test.
use Rattle.std.proofs.Common.{ℕ, zero, suc, ◌≡◌, ◌<◌, ◌≤◌, ◌+◌, ◌⊎◌, inl, inr, Bool, true, false, cond, List, [], ◌∷◌, ◌++◌, filter, refl, sym, ◌∙◌, ap, subst, arith, zero-add}
use Rattle.std.specs.List.{range_with_len}
use Rattle.std.proofs.lemmas.Bool.{cases_lt}
use Rattle.std.proofs.lemmas.List.Elements.{filter-append}
use Rattle.fs_model.specs.Claims.{Has, here, there}

range_more : (a n : ℕ) → range_with_len a (suc n) ≡ range_with_len a n ++ (a + n) ∷ []
range_more a zero = ap (λ x. x ∷ []) (let e : a ≡ a + 0 = omega arith in e)
range_more a (suc n) = ap (λ l. a ∷ l) (range_more (a + 1) n ∙ ap (λ x. range_with_len (a + 1) n ++ x ∷ []) (let e : a + 1 + n ≡ a + suc n = omega arith in e))

pub range_push : (n : ℕ) → range_with_len 0 (n + 1) ≡ range_with_len 0 n ++ n ∷ []
range_push n =
    ap (range_with_len 0) (let e : n + 1 ≡ suc n = omega arith in e) ∙ range_more 0 n ∙ ap (λ x. range_with_len 0 n ++ x ∷ []) (zero-add n)

pub filter_more : (p : ℕ → Bool) (n : ℕ) → filter p (range_with_len 0 (n + 1)) ≡ filter p (range_with_len 0 n) ++ cond (p n) (n ∷ []) []
filter_more p n = ap (filter p) (range_push n) ∙ filter-append p (range_with_len 0 n) (n ∷ [])

-- what a list of the numbers that pass holds
pub Has-filter : (p : ℕ → Bool) (xs : List ℕ) (k : ℕ) → Has k xs → p k ≡ true → Has k (filter p xs)
Has-filter p [] k h e = elim h [ ]
Has-filter p (x ∷ xs) k h e = go x k (p x) refl refl h (Has-filter p xs k)
  where
    go : (y j : ℕ) (b : Bool) → p x ≡ b → y ≡ x → Has k (x ∷ xs) → (Has k xs → p k ≡ true → Has k (filter p xs)) → Has k (cond (p x) (x ∷ filter p xs) (filter p xs))
    go y j true is _ i rest = rw is (at_first k x xs (filter p xs) i (λ m. rest m e))
      where
        at_first : (k x : ℕ) (xs ys : List ℕ) → Has k (x ∷ xs) → (Has k xs → Has k ys) → Has k (x ∷ ys)
        at_first k _ xs ys here f = here
        at_first k x xs ys (there m) f = there (f m)
    go y j false is _ i rest = rw is (past k x xs (filter p xs) i (λ d. absurd (let f : false ≡ true = sym is ∙ ap p (sym d) ∙ e in cc)) (λ m. rest m e))
      where
        past : (k x : ℕ) (xs ys : List ℕ) → Has k (x ∷ xs) → (k ≡ x → Has k ys) → (Has k xs → Has k ys) → Has k ys
        past k _ xs ys here f g = f refl
        past k x xs ys (there m) f g = g m

pub Has-of_filter : (p : ℕ → Bool) (xs : List ℕ) (k : ℕ) → Has k (filter p xs) → Has k xs × (p k ≡ true)
Has-of_filter p [] k h = elim h [ ]
Has-of_filter p (x ∷ xs) k h = go (p x) refl h (Has-of_filter p xs k)
  where
    one : (k x : ℕ) (xs ys : List ℕ) → p x ≡ true → Has k (x ∷ ys) → (Has k ys → Has k xs × (p k ≡ true)) → Has k (x ∷ xs) × (p k ≡ true)
    one k _ xs ys is here rest = (here, is)
    one k x xs ys is (there j) rest = let r = rest j in (there r.0, r.1)

    go : (b : Bool) → p x ≡ b → Has k (cond (p x) (x ∷ filter p xs) (filter p xs)) → (Has k (filter p xs) → Has k xs × (p k ≡ true)) →
        Has k (x ∷ xs) × (p k ≡ true)
    go true is i rest = one k x xs (filter p xs) is (rw is at i) rest
    go false is i rest = let r = rest (rw is at i) in (there r.0, r.1)

range_has : (a n k : ℕ) → a ≤ k → k < a + n → Has k (range_with_len a n)
range_has a zero k h i = absurd (omega arith)
range_has a (suc n) k h i = go (cases_lt a k) (range_has (a + 1) n k)
  where
    go : (a < k) ⊎ (k ≤ a) → (a + 1 ≤ k → k < a + 1 + n → Has k (range_with_len (a + 1) n)) → Has k (a ∷ range_with_len (a + 1) n)
    go (inl x) rest = there (rest (omega arith) (omega arith))
    go (inr x) rest = subst (λ y. Has y (a ∷ range_with_len (a + 1) n)) (let e : a ≡ k = omega arith in e) here

pub Has-range : (n k : ℕ) → k < n → Has k (range_with_len 0 n)
Has-range n k h = range_has 0 n k (omega arith) (omega arith)

range_in : (a n k : ℕ) → Has k (range_with_len a n) → k < a + n
range_in a zero k h = elim h [ ]
range_in a (suc n) k here = omega arith
range_in a (suc n) k (there h) = omega (arith, range_in (a + 1) n k h)

pub Has-of_range : (n k : ℕ) → Has k (range_with_len 0 n) → k < n
Has-of_range n k h = omega (arith, range_in 0 n k h)
