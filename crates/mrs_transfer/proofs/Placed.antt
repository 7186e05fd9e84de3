-- OUTPUT in the place of a removed elementary predication, from the last place to the first.
use Rattle.std.proofs.Common.{ℕ, zero, suc, ◌≡◌, ◌<◌, ◌≤◌, ◌+◌, ◌∙◌, Bool, true, false, cond, eqb, List, [], ◌∷◌, ◌++◌, length, get_or, take, drop, refl, sym, ap, arith}
use Rattle.std.specs.Prelude.{All, ◌||◌}
use Rattle.std.specs.List.{list_any}
use Rattle.std.proofs.lemmas.Bool.{eq-eqb, ne_eqb}
use Rattle.std.proofs.lemmas.List.{drop_more}
use Rattle.mrs_model.specs.Meanings.{Predication}
use Rattle.transfer_model.specs.Applying.{has, left_of, replaced}
use Rattle.mrs_transfer.specs.Inner.Replacing.{placed}

pub has_is : (gone : List ℕ) (k : ℕ) → list_any (λ n. eqb n k) gone ≡ has gone k
has_is [] k = refl
has_is (n ∷ gone) k = ap (λ (b : Bool). eqb n k || b) (has_is gone k)

not_before : (gone : List ℕ) (first k : ℕ) → All (λ p. first ≤ p) gone → k < first → has gone k ≡ false
not_before [] first k a l = refl
not_before (n ∷ gone) first k a l =
    let q : first ≤ n = a 0 n (omega arith) in
    let ne : eqb n k ≡ false = ne_eqb n k (λ e. omega (arith, e, q, l)) in
    ap (λ (b : Bool). b || has gone k) ne ∙ not_before gone first k (λ j d m. a (suc j) d (omega (arith, m))) l

-- behind the first that is removed
placed_behind : (gone : List ℕ) (first : ℕ) (new : List Predication) (k : ℕ) (es : List Predication) → first < k → placed gone first new k es ≡ left_of gone k es
placed_behind gone first new k [] l = refl
placed_behind gone first new k (e ∷ es) l =
    let ne : eqb k first ≡ false = ne_eqb k first (λ q. omega (arith, q, l)) in
    ap (λ (b : Bool). cond b new [] ++ (cond (has gone k) [] (e ∷ []) ++ placed gone first new (k + 1) es)) ne
    ∙ (ap (λ (zs : List Predication). cond (has gone k) [] (e ∷ []) ++ zs) (placed_behind gone first new (k + 1) es (omega (arith, l))) ∙ by_bit (has gone k))
  where
    by_bit : (b : Bool) → cond b [] (e ∷ []) ++ left_of gone (k + 1) es ≡ cond b (left_of gone (k + 1) es) (e ∷ left_of gone (k + 1) es)
    by_bit true = refl
    by_bit false = refl

placed_from : (gone : List ℕ) (first : ℕ) (new : List Predication) (j k : ℕ) (es : List Predication) → k + j ≡ first → j < length es → All (λ p. first ≤ p) gone
    → placed gone first new k es ≡ take j es ++ (new ++ left_of gone first (drop j es))
placed_from gone first new j k [] q l a = absurd (omega arith)
placed_from gone first new zero k (e ∷ es) q l a =
    let same : k ≡ first = omega (arith, q) in
    ap (λ (b : Bool). cond b new [] ++ (cond (has gone k) [] (e ∷ []) ++ placed gone first new (k + 1) es)) (eq-eqb k first same)
    ∙ ap (λ (zs : List Predication). new ++ zs)
    (ap (λ (zs : List Predication). cond (has gone k) [] (e ∷ []) ++ zs) (placed_behind gone first new (k + 1) es (omega (arith, same)))
    ∙ (by_bit (has gone k) ∙ ap (λ (z : ℕ). left_of gone z (e ∷ es)) same))
  where
    by_bit : (b : Bool) → cond b [] (e ∷ []) ++ left_of gone (k + 1) es ≡ cond b (left_of gone (k + 1) es) (e ∷ left_of gone (k + 1) es)
    by_bit true = refl
    by_bit false = refl
placed_from gone first new (suc j) k (e ∷ es) q l a =
    let ne : eqb k first ≡ false = ne_eqb k first (λ s. omega (arith, s, q)) in
    let stays : has gone k ≡ false = not_before gone first k a (omega (arith, q)) in
    ap (λ (b : Bool). cond b new [] ++ (cond (has gone k) [] (e ∷ []) ++ placed gone first new (k + 1) es)) ne
    ∙ (ap (λ (b : Bool). cond b [] (e ∷ []) ++ placed gone first new (k + 1) es) stays
    ∙ ap (λ (zs : List Predication). e ∷ zs) (placed_from gone first new j (k + 1) es (omega (arith, q)) (omega (arith, l)) a))

pub placed_all : (gone : List ℕ) (first : ℕ) (new es : List Predication) → first < length es → All (λ p. first ≤ p) gone → placed gone first new 0 es ≡ replaced gone first new es
placed_all gone first new es l a = let q : 0 + first ≡ first = omega arith in placed_from gone first new first 0 es q l a

-- one place before
pub placed_more : (gone : List ℕ) (first : ℕ) (new es : List Predication) (k : ℕ) (e : Predication) → k < length es → e ≡ get_or es k e
    → placed gone first new k (drop k es) ≡ cond (eqb k first) new [] ++ (cond (has gone k) [] (e ∷ []) ++ placed gone first new (k + 1) (drop (k + 1) es))
placed_more gone first new es k e l is =
    ap (placed gone first new k) (drop_more es k e l ∙ ap (λ (x : Predication). x ∷ drop (k + 1) es) (sym is))
