-- Tests, and lists read from behind.
use Rattle.std.proofs.Common.{ℕ, zero, suc, ◌≡◌, ◌+◌, ◌-◌, ◌<◌, ◌≤◌, ◌∙◌, Bool, true, false, List, [], ◌∷◌, ◌++◌, length, get_or, take, refl, sym, ap, arith}
use Rattle.std.specs.Prelude.{if◌then◌else◌, reverse}
use Rattle.std.proofs.lemmas.List.{take_more, reverse-append}

pub yes : {A : Type 0} (b : Bool) (x y : A) → b ≡ true → (if b then x else y) ≡ x
yes true x y e = refl
yes false x y e = absurd (cc)

pub no : {A : Type 0} (b : Bool) (x y : A) → b ≡ false → (if b then x else y) ≡ y
no true x y e = absurd (cc)
no false x y e = refl

pub take_whole : {X : Type 0} (xs : List X) (k : ℕ) → length xs ≤ k → take k xs ≡ xs
take_whole [] zero l = refl
take_whole [] (suc k) l = refl
take_whole (x ∷ xs) zero l = absurd (omega arith)
take_whole (x ∷ xs) (suc k) l = ap (λ ys. x ∷ ys) (take_whole xs k (omega arith))

pub push_back : {X : Type 0} (xs : List X) (x : X) → reverse (xs ++ x ∷ []) ≡ x ∷ reverse xs
push_back xs x = reverse-append xs (x ∷ [])

back_at : {X : Type 0} (xs : List X) (j : ℕ) (d : X) → j < length xs → reverse (take (j + 1) xs) ≡ get_or xs j d ∷ reverse (take j xs)
back_at xs j d l = ap reverse (take_more xs j d l) ∙ push_back (take j xs) (get_or xs j d)

-- the last of the first i, and those before it
pub back : {X : Type 0} (xs : List X) (i : ℕ) (x : X) → 0 < i → i ≤ length xs → x ≡ get_or xs (i - 1) x → reverse (take i xs) ≡ x ∷ reverse (take (i - 1) xs)
back xs zero x a l e = absurd (omega (arith, a))
back xs (suc j) x a l e =
    let m : suc j - 1 ≡ j = omega arith in
    let p : suc j ≡ j + 1 = omega arith in
    let r = back_at xs j x (omega (arith, l)) in
    let q : get_or xs j x ≡ x = ap (λ n. get_or xs n x) (sym m) ∙ sym e in
    ap (λ n. reverse (take n xs)) p ∙ (r ∙ (ap (λ y. y ∷ reverse (take j xs)) q ∙ ap (λ n. x ∷ reverse (take n xs)) (sym m)))

pub none_left : {X : Type 0} (xs : List X) (i : ℕ) → i ≤ 0 → reverse (take i xs) ≡ []
none_left [] zero l = refl
none_left (x ∷ xs) zero l = refl
none_left xs (suc i) l = absurd (omega (arith, l))
