-- The variables that stand somewhere, in their order.
use Rattle.std.proofs.Common.{ℕ, zero, suc, ◌+◌, ◌≡◌, ◌<◌, ◌≤◌, ◌⊎◌, inl, inr, Bool, true, false, List, [], ◌∷◌, map, length, get_or, refl, sym, ap, subst, arith, ◌==◌}
use Rattle.std.specs.Prelude.{slice_index, if◌then◌else◌}
use Rattle.std.specs.List.{Any}
use Rattle.std.proofs.lemmas.Bool.{cases_eq, eqb-true, eqb-false}
use Rattle.mrs_model.specs.Meanings.{Filler, of_var, of_text, Argument, Predication, Constraint, Meaning}
use Rattle.mrs_model.specs.Valid.{StandsIn, IsEnd, Stands}
use Rattle.transfer_model.proofs.Lists.{In}
use Rattle.transfer_model.proofs.Trimmed.{Rising}

-- it holds, or it doesn't
abbrev pub Known : Type 0 → Type 0
Known P = P ⊎ (P → ⊥)

pub either_known : (P Q : Type 0) → Known P → Known Q → Known (P ⊎ Q)
either_known P Q (inl p) k = inl (inl p)
either_known P Q (inr n) (inl q) = inl (inr q)
either_known P Q (inr n) (inr o) = inr (λ h. elim h [ inl p ↦ n p | inr q ↦ o q ])

pub any_first : {A : Type 0} (P : A → Type 0) (x : A) (xs : List A) → P x → Any P (x ∷ xs)
any_first P x xs p = (0, x, omega arith, refl, p)

pub any_other : {A : Type 0} (P : A → Type 0) (x : A) (xs : List A) → Any P xs → Any P (x ∷ xs)
any_other P x xs (k, y, l, e, p) = (suc k, y, omega (arith, l), e, p)

pub any_cases : {A : Type 0} (P : A → Type 0) (x : A) (xs : List A) → Any P (x ∷ xs) → P x ⊎ Any P xs
any_cases P x xs (k, y, l, e, p) = at k l e
  where
    at : (j : ℕ) → j < length (x ∷ xs) → get_or (x ∷ xs) j y ≡ y → P x ⊎ Any P xs
    at zero m f = inl (subst P (sym f) p)
    at (suc j) m f = inr (j, y, omega (arith, m), f, p)

pub any_known : {A : Type 0} (P : A → Type 0) → ((x : A) → Known (P x)) → (xs : List A) → Known (Any P xs)
any_known P d [] = inr (λ h. let l = h.2 in omega (arith, l))
any_known P d (x ∷ xs) = by (d x) (any_known P d xs)
  where
    by : Known (P x) → Known (Any P xs) → Known (Any P (x ∷ xs))
    by (inl p) k = inl (any_first P x xs p)
    by (inr n) (inl a) = inl (any_other P x xs a)
    by (inr n) (inr o) = inr (λ h. elim (any_cases P x xs h) [ inl p ↦ n p | inr a ↦ o a ])

pub any_map : {A B : Type 0} (f : A → B) (P : A → Type 0) (Q : B → Type 0) → ((x : A) → P x → Q (f x)) → (xs : List A) → Any P xs → Any Q (map f xs)
any_map f P Q g [] h = absurd (let l = h.2 in omega (arith, l))
any_map f P Q g (x ∷ xs) h = elim (any_cases P x xs h) [
  | inl p ↦ any_first Q (f x) (map f xs) (g x p)
  | inr a ↦ any_other Q (f x) (map f xs) (any_map f P Q g xs a)
]

pub any_in : {A : Type 0} (P : A → Type 0) (x : A) (xs : List A) → In x xs → P x → Any P xs
any_in P x [] i p = absurd i
any_in P x (y ∷ xs) (inl e) p = any_first P y xs (subst P e p)
any_in P x (y ∷ xs) (inr i) p = any_other P y xs (any_in P x xs i p)

abbrev number_of : Filler → ℕ
number_of (of_var v) = v
number_of (of_text t) = 0

filler_known : (v : ℕ) (f : Filler) → Known (f ≡ of_var v)
filler_known v (of_var w) = elim (cases_eq w v) [
  | inl e ↦ inl (ap of_var e)
  | inr n ↦ inr (λ e. n (ap number_of e))
]
filler_known v (of_text t) = inr (λ e. absurd (cc))

pub stands_known : (m : Meaning) (v : ℕ) → Known (Stands m v)
stands_known m v =
    let ep : (e : Predication) → Known (StandsIn v e) = λ e. either_known (e.label ≡ v) (Any (λ a. a.filler ≡ of_var v) e.args) (cases_eq e.label v) (any_known (λ (a : Argument). a.filler ≡ of_var v) (λ a. filler_known v a.filler) e.args) in
    let end : (c : Constraint) → Known (IsEnd v c) = λ c. either_known (c.left ≡ v) (c.right ≡ v) (cases_eq c.left v) (cases_eq c.right v) in
    let icons = any_known (IsEnd v) end m.icons in
    let hcons = either_known (Any (IsEnd v) m.hcons) (Any (IsEnd v) m.icons) (any_known (IsEnd v) end m.hcons) icons in
    let eps = either_known (Any (StandsIn v) m.eps) (Any (IsEnd v) m.hcons ⊎ Any (IsEnd v) m.icons) (any_known (StandsIn v) ep m.eps) hcons in
    let index = either_known (m.index ≡ v) (Any (StandsIn v) m.eps ⊎ (Any (IsEnd v) m.hcons ⊎ Any (IsEnd v) m.icons)) (cases_eq m.index v) eps in
    either_known (m.top ≡ v) ((m.index ≡ v) ⊎ (Any (StandsIn v) m.eps ⊎ (Any (IsEnd v) m.hcons ⊎ Any (IsEnd v) m.icons))) (cases_eq m.top v) index

-- of so many numbers from n on those of which it holds
module _ (P : ℕ → Type 0) (known : (v : ℕ) → Known (P v)) where
  abbrev pick : (n : ℕ) → Known (P n) → List ℕ → List ℕ
  pick n (inl p) ns = n ∷ ns
  pick n (inr o) ns = ns

  abbrev pub kept_from : ℕ → ℕ → List ℕ
  kept_from n zero = []
  kept_from n (suc count) = pick n (known n) (kept_from (n + 1) count)

  pub kept_in : (n count v : ℕ) → In v (kept_from n count) → (n ≤ v) × (v < n + count) × P v
  kept_in n zero v i = absurd i
  kept_in n (suc count) v i = by (known n) i (kept_in (n + 1) count v)
    where
      by : (k : Known (P n)) → In v (pick n k (kept_from (n + 1) count)) → (In v (kept_from (n + 1) count) → (n + 1 ≤ v) × (v < n + 1 + count) × P v) → (n ≤ v) × (v < n + suc count) × P v
      by (inl p) (inl e) go = (omega (arith, e), omega (arith, e), subst P (sym e) p)
      by (inl p) (inr j) go = let r = go j in let a = r.0 in let b = r.1 in (omega (arith, a), omega (arith, b), r.2)
      by (inr o) j go = let r = go j in let a = r.0 in let b = r.1 in (omega (arith, a), omega (arith, b), r.2)

  pub in_kept : (n count v : ℕ) → n ≤ v → v < n + count → P v → In v (kept_from n count)
  in_kept n zero v l m p = absurd (omega (arith, l, m))
  in_kept n (suc count) v l m p = by (known n) (cases_eq v n) (in_kept (n + 1) count v)
    where
      by : (k : Known (P n)) → (v ≡ n) ⊎ (v ≡ n → ⊥) → (n + 1 ≤ v → v < n + 1 + count → P v → In v (kept_from (n + 1) count)) → In v (pick n k (kept_from (n + 1) count))
      by (inl q) (inl e) go = inl e
      by (inl q) (inr d) go = inr (go (omega (arith, l, d)) (omega (arith, m)) p)
      by (inr o) (inl e) go = absurd (o (subst P e p))
      by (inr o) (inr d) go = go (omega (arith, l, d)) (omega (arith, m)) p

  rising_more : (n : ℕ) (ns : List ℕ) → Rising ns → ((v : ℕ) → In v ns → n < v) → Rising (n ∷ ns)
  rising_more n ns r above zero zero l m = absurd (omega (arith, l))
  rising_more n ns r above zero (suc j) l m = above (slice_index ns j) (in_at ns j (omega (arith, m)))
    where
      in_at : (xs : List ℕ) (k : ℕ) → k < length xs → In (get_or xs k 0) xs
      in_at [] k h = absurd (omega (arith, h))
      in_at (x ∷ xs) zero h = inl refl
      in_at (x ∷ xs) (suc k) h = inr (in_at xs k (omega (arith, h)))
  rising_more n ns r above (suc i) zero l m = absurd (omega (arith, l))
  rising_more n ns r above (suc i) (suc j) l m = r i j (omega (arith, l)) (omega (arith, m))

  pub kept_rises : (n count : ℕ) → Rising (kept_from n count)
  kept_rises n zero = λ i j l m. absurd (omega (arith, m))
  kept_rises n (suc count) = by (known n) (kept_rises (n + 1) count)
    where
      by : (k : Known (P n)) → Rising (kept_from (n + 1) count) → Rising (pick n k (kept_from (n + 1) count))
      by (inl p) r = rising_more n (kept_from (n + 1) count) r (λ v i. let w = (kept_in (n + 1) count v i).0 in omega (arith, w))
      by (inr o) r = r

-- where a number stands in a list
abbrev pub place : List ℕ → ℕ → ℕ
place [] v = 0
place (k ∷ ks) v = if k == v then 0 else suc (place ks v)

pub placed : (ks : List ℕ) (v : ℕ) → In v ks → (place ks v < length ks) × (slice_index ks (place ks v) ≡ v)
placed [] v i = absurd i
placed (k ∷ ks) v i = by (k == v) refl i (placed ks v)
  where
    by : (b : Bool) → (k == v) ≡ b → In v (k ∷ ks) → (In v ks → (place ks v < length ks) × (slice_index ks (place ks v) ≡ v)) → ((if b then 0 else suc (place ks v)) < length (k ∷ ks)) × (slice_index (k ∷ ks) (if b then 0 else suc (place ks v)) ≡ v)
    by true e j go = (omega arith, eqb-true k v e)
    by false e (inl d) go = absurd (eqb-false k v e (sym d))
    by false e (inr j) go = let r = go j in let l = r.0 in (omega (arith, l), r.1)
