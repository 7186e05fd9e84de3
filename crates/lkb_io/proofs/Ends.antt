-- Lists without a line end, and lists that are cut into lines.
use Rattle.std.proofs.Common.{zero, suc, ◌-◌, ◌≡◌, ◌≢◌, ℕ, ◌<◌, ◌≤◌, ◌+◌, ◌∙◌, sym, ap, refl, List, [], ◌∷◌, ◌++◌, length, length-drop, length-append, inr, take, drop, get_or, Option, append-nil, arith, subst, if◌then◌else◌, ◌==◌, true, false}
use Rattle.std.proofs.Math.Seq.{take-add, take-append_seam}
use Rattle.std.proofs.lemmas.List.Folds.{drop_split}
use Rattle.std.proofs.lemmas.List.{take_all}
use Rattle.lkb_io.specs.Lines.{HasNoEnd, IsTooLong, IsNext, last_of, cut, put_before}

pub HasNoEnd-more : (bs : List ℕ) (i d : ℕ) → i < length bs → HasNoEnd (take i bs) → get_or bs i d ≢ 10 → HasNoEnd (take (suc i) bs)
HasNoEnd-more [] i d h k n = tt
HasNoEnd-more (b ∷ bs) zero d h k n = (n, tt)
HasNoEnd-more (b ∷ bs) (suc i) d h k n = (k.0, HasNoEnd-more bs i d (omega (arith, h)) k.1 n)

pub HasNoEnd-all : (bs : List ℕ) (i : ℕ) → length bs ≤ i → HasNoEnd (take i bs) → HasNoEnd bs
HasNoEnd-all [] i h k = tt
HasNoEnd-all (b ∷ bs) zero h k = absurd (omega (arith, h))
HasNoEnd-all (b ∷ bs) (suc i) h k = (k.0, HasNoEnd-all bs i (omega (arith, h)) k.1)

pub split-at : (bs : List ℕ) (i d : ℕ) → i < length bs → get_or bs i d ≡ 10 → bs ≡ take i bs ++ 10 ∷ drop (suc i) bs
split-at [] i d h e = absurd (omega (arith, h))
split-at (b ∷ bs) zero d h e = ap (λ t. t ∷ bs) e
split-at (b ∷ bs) (suc i) d h e = ap (λ t. b ∷ t) (split-at bs i d (omega (arith, h)) e)

-- a line and its end
pub cut-line : (line rest : List ℕ) → HasNoEnd line → cut (line ++ 10 ∷ rest) ≡ (line ∷ (cut rest).0, (cut rest).1)
cut-line [] rest h = refl
cut-line (b ∷ bs) rest h =
    let e : (b == 10) ≡ false = grind (arith, h.0) in
    ap (λ t. if t then ([] ∷ (cut (bs ++ 10 ∷ rest)).0, (cut (bs ++ 10 ∷ rest)).1) else put_before b (cut (bs ++ 10 ∷ rest))) e ∙ ap (put_before b) (cut-line bs rest h.1)

-- what has no end
pub cut-rest : (rest : List ℕ) → HasNoEnd rest → cut rest ≡ ([], rest)
cut-rest [] h = refl
cut-rest (b ∷ bs) h =
    let e : (b == 10) ≡ false = grind (arith, h.0) in
    ap (λ t. if t then ([] ∷ (cut bs).0, (cut bs).1) else put_before b (cut bs)) e ∙ ap (put_before b) (cut-rest bs h.1)

pub take-more : (bs : List ℕ) (i n : ℕ) → take i bs ++ take n (drop i bs) ≡ take (i + n) bs
take-more bs i n = sym (take-add i n bs)

pub rest-whole : (bs : List ℕ) (i : ℕ) → take (length bs - i) (drop i bs) ≡ drop i bs
rest-whole bs i = take_all _ _ (omega (arith, length-drop i bs))

-- the next n bytes, written at the front of a buffer
pub take-written : (bs cs ds : List ℕ) (at n : ℕ) → length cs ≡ n → cs ≡ take (at + n - at) (drop at bs) → drop at bs ≡ take n (cs ++ ds) ++ drop (at + n) bs
take-written bs cs ds at n h e =
    let front : take n (cs ++ ds) ≡ cs = subst (λ k. take k (cs ++ ds) ≡ cs) h (take-append_seam cs ds) in
    drop_split bs at (at + n) (omega arith) ∙ ap (λ t. t ++ drop (at + n) bs) (sym e ∙ sym front)

-- the same, where they are taken off a range up to the end
pub take-given : (bs cs ds : List ℕ) (at n : ℕ) → length cs ≡ n → cs ≡ take n (take (length bs - at) (drop at bs)) → drop at bs ≡ take n (cs ++ ds) ++ drop (at + n) bs
take-given bs cs ds at n h e =
    let count : n ≡ at + n - at = omega arith in
    take-written bs cs ds at n h (e ∙ ap (take n) (rest-whole bs at) ∙ ap (λ k. take k (drop at bs)) count)

no-end-in : (front rest : List ℕ) → HasNoEnd (front ++ 10 ∷ rest) → ⊥
no-end-in [] rest k = k.0 refl
no-end-in (b ∷ bs) rest k = no-end-in bs rest k.1

pub not_too_long : (bs : List ℕ) (at : ℕ) → bs ≡ take at bs ++ 10 ∷ drop (at + 1) bs → IsTooLong bs → ⊥
not_too_long bs at e k = no-end-in (take at bs) (drop (at + 1) bs) (subst HasNoEnd e k.1)

pub HasNoEnd-take : (bs : List ℕ) (n : ℕ) → HasNoEnd bs → HasNoEnd (take n bs)
HasNoEnd-take bs zero h = tt
HasNoEnd-take [] (suc n) h = tt
HasNoEnd-take (b ∷ bs) (suc n) h = (h.0, HasNoEnd-take bs n h.1)

pub none-came : (xs ys zs : List ℕ) → ys ≡ xs ++ zs → length ys ≡ length xs + 0 → ys ≡ xs
none-came xs ys [] e h = e ∙ append-nil xs
none-came xs ys (z ∷ zs) e h =
    let k : length ys ≡ length xs + suc (length zs) = ap length e ∙ length-append xs (z ∷ zs) in
    absurd (omega (arith, h, k))

nil-cons : (b : ℕ) (bs : List ℕ) → b ∷ bs ≡ [] → ⊥
nil-cons b bs p = let q : length (b ∷ bs) ≡ 0 = ap length p in omega (arith, q)

-- all that is held is the last line
pub IsNext-last : (all held : List ℕ) (line : Option (List ℕ)) → line ≡ last_of held → all ≡ held → HasNoEnd held → length held < 65536 → IsNext line all (record { bytes = []; ended = true })
IsNext-last all [] line e same h short = subst (λ l. IsNext l all (record { bytes = []; ended = true })) (sym e) (same, refl, refl)
IsNext-last all (b ∷ bs) line e same h short = subst (λ l. IsNext l all (record { bytes = []; ended = true })) (sym e) (h, short, inr (same, (λ p. absurd (nil-cons b bs p)), refl, refl))
