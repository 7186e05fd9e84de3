-- The numbers of what is marked.
use Rattle.std.proofs.Common.{ℕ, zero, suc, ◌≡◌, ◌<◌, ◌≤◌, ◌+◌, ◌∙◌, Bool, true, false, cond, List, [], ◌∷◌, length, get_or, take, drop, refl, sym, subst, arith}
use Rattle.std.specs.Prelude.{All, Contains}
use mathlib.Core.Bool.{beq}
use Rattle.std.specs.List.{AllZip, list_any}
use Rattle.std.proofs.lemmas.Bool.{false≢true}
use Rattle.std.proofs.lemmas.List.{drop_more, get_or_default}
use Rattle.mrs_transfer.specs.Inner.Trimming.{marked_from, kept_by}

-- how many are marked before a place
counted_on : (n i : ℕ) (bs : List Bool) (d : Bool) → i < length bs → length (marked_from n (take (suc i) bs)) ≡ length (marked_from n (take i bs)) + cond (get_or bs i d) 1 0
counted_on n i [] d h = absurd (omega arith)
counted_on n zero (true ∷ bs) d h = refl
counted_on n zero (false ∷ bs) d h = refl
counted_on n (suc i) (true ∷ bs) d h = omega (arith, counted_on (n + 1) i bs d (omega arith))
counted_on n (suc i) (false ∷ bs) d h = counted_on (n + 1) i bs d (omega arith)

pub counted_more : (bs : List Bool) (i : ℕ) (b : Bool) → i < length bs → b ≡ get_or bs i b → length (kept_by (take (i + 1) bs)) ≡ length (kept_by (take i bs)) + cond b 1 0
counted_more bs i b h e =
    let one : i + 1 ≡ suc i = omega arith in
    subst (λ (j : ℕ). length (kept_by (take j bs)) ≡ length (kept_by (take i bs)) + cond b 1 0) (sym one)
    (subst (λ (c : Bool). length (kept_by (take (suc i) bs)) ≡ length (kept_by (take i bs)) + cond c 1 0) (sym e) (counted_on 0 i bs b h))

pub counted_marked : (bs : List Bool) (i : ℕ) (d b : Bool) → i < length bs → get_or bs i d ≡ b → length (kept_by (take (i + 1) bs)) ≡ length (kept_by (take i bs)) + cond b 1 0
counted_marked bs i d b h e = counted_more bs i b h (sym e ∙ get_or_default bs i d b h)

-- a marked number stands at the place that has as many marked ones before it
kept_on : (n v : ℕ) (bs : List Bool) → v < length bs → get_or bs v false ≡ true → (length (marked_from n (take v bs)) < length (marked_from n bs)) × (get_or (marked_from n bs) (length (marked_from n (take v bs))) 0 ≡ n + v)
kept_on n v [] l e = absurd (omega arith)
kept_on n zero (true ∷ bs) l e = (omega arith, omega arith)
kept_on n zero (false ∷ bs) l e = absurd (false≢true e)
kept_on n (suc v) (true ∷ bs) l e =
    let r = kept_on (n + 1) v bs (omega arith) e in
    let q : (n + 1) + v ≡ n + suc v = omega arith in
    (omega (arith, r.0), r.1 ∙ q)
kept_on n (suc v) (false ∷ bs) l e =
    let r = kept_on (n + 1) v bs (omega arith) e in
    let q : (n + 1) + v ≡ n + suc v = omega arith in
    (r.0, r.1 ∙ q)

pub kept_at : (bs : List Bool) (v : ℕ) → v < length bs → get_or bs v false ≡ true → (length (kept_by (take v bs)) < length (kept_by bs)) × (get_or (kept_by bs) (length (kept_by (take v bs))) 0 ≡ v)
kept_at bs v l e =
    let r = kept_on 0 v bs l e in
    let q : 0 + v ≡ v = omega arith in
    (r.0, r.1 ∙ q)

pub kept_has : (bs : List Bool) (v : ℕ) → v < length bs → get_or bs v false ≡ true → Contains (kept_by bs) v
kept_has bs v l e = let r = kept_at bs v l e in (length (kept_by (take v bs)), r.0, get_or_default (kept_by bs) (length (kept_by (take v bs))) v 0 r.0 ∙ r.1)

kept_only_from : (n : ℕ) (bs : List Bool) (v : ℕ) → Contains (marked_from n bs) v → (w : ℕ) × (v ≡ n + w) × (w < length bs) × (get_or bs w false ≡ true)
kept_only_from n [] v c = absurd (omega (arith, c.1))
kept_only_from n (true ∷ bs) v (zero, l, e) = let q : n ≡ v = e in (0, omega (arith, q), omega arith, refl)
kept_only_from n (true ∷ bs) v (suc k, l, e) = let r = kept_only_from (n + 1) bs v (k, omega (arith, l), e) in (suc r.0, omega (arith, r.1), omega (arith, r.2), r.3)
kept_only_from n (false ∷ bs) v c = let r = kept_only_from (n + 1) bs v c in (suc r.0, omega (arith, r.1), omega (arith, r.2), r.3)

pub kept_only : (bs : List Bool) (v : ℕ) → Contains (kept_by bs) v → (v < length bs) × (get_or bs v false ≡ true)
kept_only bs v c =
    let r = kept_only_from 0 bs v c in
    let q : r.0 ≡ v = omega (arith, r.1) in
    (omega (arith, r.2, q), subst (λ (z : ℕ). get_or bs z false ≡ true) q r.3)

-- they rise
kept_low : (n : ℕ) (bs : List Bool) (j : ℕ) → j < length (marked_from n bs) → n ≤ get_or (marked_from n bs) j 0
kept_low n [] j l = absurd (omega arith)
kept_low n (false ∷ bs) j l = omega (arith, kept_low (n + 1) bs j l)
kept_low n (true ∷ bs) zero l = omega arith
kept_low n (true ∷ bs) (suc j) l = omega (arith, kept_low (n + 1) bs j (omega arith))

kept_rises_from : (n : ℕ) (bs : List Bool) (i j : ℕ) → i < j → j < length (marked_from n bs) → get_or (marked_from n bs) i 0 < get_or (marked_from n bs) j 0
kept_rises_from n [] i j h l = absurd (omega arith)
kept_rises_from n (false ∷ bs) i j h l = kept_rises_from (n + 1) bs i j h l
kept_rises_from n (true ∷ bs) i zero h l = absurd (omega arith)
kept_rises_from n (true ∷ bs) zero (suc j) h l = omega (arith, kept_low (n + 1) bs j (omega arith))
kept_rises_from n (true ∷ bs) (suc i) (suc j) h l = kept_rises_from (n + 1) bs i j (omega arith) (omega arith)

pub kept_rises : (bs : List Bool) (i j : ℕ) → i < j → j < length (kept_by bs) → get_or (kept_by bs) i 0 < get_or (kept_by bs) j 0
kept_rises bs i j h l = kept_rises_from 0 bs i j h l

-- all are marked
pub none_unmarked : (bs : List Bool) → list_any (λ b. beq b false) bs ≡ false → All (λ b. b ≡ true) bs
none_unmarked [] e k d l = absurd (omega (arith, l))
none_unmarked (true ∷ bs) e zero d l = refl
none_unmarked (true ∷ bs) e (suc k) d l = none_unmarked bs e k d (omega (arith, l))
none_unmarked (false ∷ bs) e k d l = absurd (false≢true (sym e))

pub rest_marked : (b : Bool) (bs : List Bool) → All (λ c. c ≡ true) (b ∷ bs) → All (λ c. c ≡ true) bs
rest_marked b bs a k d l = a (suc k) d (omega (arith, l))

kept_all_from : (n : ℕ) (bs : List Bool) → All (λ b. b ≡ true) bs → (v : ℕ) → v < length bs → get_or (marked_from n bs) v 0 ≡ n + v
kept_all_from n [] a v l = absurd (omega arith)
kept_all_from n (false ∷ bs) a v l = absurd (false≢true (a 0 true (omega arith)))
kept_all_from n (true ∷ bs) a zero l = omega arith
kept_all_from n (true ∷ bs) a (suc v) l =
    let q : (n + 1) + v ≡ n + suc v = omega arith in
    kept_all_from (n + 1) bs (rest_marked true bs a) v (omega arith) ∙ q

pub kept_all : (bs : List Bool) → All (λ b. b ≡ true) bs → (v : ℕ) → v < length bs → get_or (kept_by bs) v 0 ≡ v
kept_all bs a v l = let q : 0 + v ≡ v = omega arith in kept_all_from 0 bs a v l ∙ q

-- what is left of a list, from a place on
pub left_more : {X : Type 0} (marks : List Bool) (R : ℕ → X → Type 0) (ys : List X) (n : ℕ) (x : X) (b : Bool) → n < length marks → b ≡ get_or marks n b → R n x
    → AllZip R (marked_from (n + 1) (drop (n + 1) marks)) ys → AllZip R (marked_from n (drop n marks)) (cond b (x ∷ ys) ys)
left_more marks R ys n x b l e r h =
    subst (λ (bs : List Bool). AllZip R (marked_from n bs) (cond b (x ∷ ys) ys)) (sym (drop_more marks n b l))
    (subst (λ (z : Bool). AllZip R (marked_from n (z ∷ drop (n + 1) marks)) (cond b (x ∷ ys) ys)) e (by_bit b))
  where
    by_bit : (c : Bool) → AllZip R (marked_from n (c ∷ drop (n + 1) marks)) (cond c (x ∷ ys) ys)
    by_bit true = (r, h)
    by_bit false = h
