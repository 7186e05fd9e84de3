-- How far arcs can lead in a graph in which no node reaches itself.
use Rattle.std.proofs.Common.{ℕ, zero, suc, ◌≡◌, ◌<◌, ◌≤◌, ◌+◌, ◌⊎◌, inl, inr, ◌≢◌, Bool, true, false, length, refl, sym, ◌∙◌, ap, subst, arith}
use Rattle.std.specs.Prelude.{nat_lt, nat_eq}
use Rattle.std.proofs.lemmas.Bool.{ltb-true, lt-ltb}
use Rattle.std.proofs.lemmas.Bool.Decides.{eqb_tells}
use Rattle.fs_graph.specs.GraphMap.{GraphMap, IsGraph}
use Rattle.mrs_places.specs.Inner.Walked.{Along, stays, further}

abbrev one : Bool → ℕ
one true = 1
one false = 0

one_at_most : (b : Bool) → one b ≤ 1
one_at_most true = omega arith
one_at_most false = omega arith

-- how many of the first nodes have a number below a limit
abbrev lower : (ℕ → ℕ) → ℕ → ℕ → ℕ
lower h limit zero = 0
lower h limit (suc n) = one (nat_lt (h n) limit) + lower h limit n

one_rises : (a x y : ℕ) (b c : Bool) → b ≡ nat_lt a x → c ≡ nat_lt a y → x ≤ y → one b ≤ one c
one_rises a x y false c e f le = omega arith
one_rises a x y true true e f le = omega arith
one_rises a x y true false e f le =
    let u : a < x = ltb-true a x (sym e) in
    let v : nat_lt a y ≡ true = lt-ltb a y (omega (arith, u, le)) in
    let w : false ≡ true = f ∙ v in
    absurd (cc)

lower_rises : (h : ℕ → ℕ) (x y n : ℕ) → x ≤ y → lower h x n ≤ lower h y n
lower_rises h x y zero le = omega arith
lower_rises h x y (suc n) le = omega (arith, lower_rises h x y n le, one_rises (h n) x y (nat_lt (h n) x) (nat_lt (h n) y) refl refl le)

one_false : (a x : ℕ) (b : Bool) → b ≡ nat_lt a x → x ≤ a → one b ≡ 0
one_false a x false e le = refl
one_false a x true e le = let u : a < x = ltb-true a x (sym e) in absurd (omega (arith, u, le))

one_true : (a x : ℕ) → a < x → one (nat_lt a x) ≡ 1
one_true a x lt = ap one (lt-ltb a x lt)

-- a node with a number between two limits is counted by the higher one alone
lower_more : (h : ℕ → ℕ) (x y a n : ℕ) → x ≤ h a → h a < y → a < n → lower h x n < lower h y n
lower_more h x y a zero le lt in_ = absurd (omega arith)
lower_more h x y a (suc n) le lt in_ = by_last (λ below. lower_more h x y a n le lt below) (eqb_tells a n)
  where
    by_last : (a < n → lower h x n < lower h y n) → ((nat_eq a n ≡ true) × (a ≡ n)) ⊎ ((nat_eq a n ≡ false) × (a ≢ n)) → lower h x (suc n) < lower h y (suc n)
    by_last ih (inl t) =
        let u : one (nat_lt (h n) x) ≡ 0 = one_false (h n) x (nat_lt (h n) x) refl (subst (λ k. x ≤ h k) t.1 le) in
        let v : one (nat_lt (h n) y) ≡ 1 = one_true (h n) y (subst (λ k. h k < y) t.1 lt) in
        omega (arith, u, v, lower_rises h x y n (omega (arith, le, lt)))
    by_last ih (inr f) =
        omega (arith, ih (omega (arith, in_, f.1)), one_rises (h n) x y (nat_lt (h n) x) (nat_lt (h n) y) refl refl (omega (arith, le, lt)))

lower_within : (h : ℕ → ℕ) (x n : ℕ) → lower h x n ≤ n
lower_within h x zero = omega arith
lower_within h x (suc n) = omega (arith, lower_within h x n, one_at_most (nat_lt (h n) x))

abbrev rank : (ℕ → ℕ) → ℕ → ℕ → ℕ
rank h size n = lower h (h n) size

rank_within : (h : ℕ → ℕ) (size n : ℕ) → n < size → rank h size n < size
rank_within h size n lt =
    let u : lower h (h n) size < lower h (h n + 1) size = lower_more h (h n) (h n + 1) n size (omega arith) (omega arith) lt in
    omega (arith, u, lower_within h (h n + 1) size)

rank_falls : (h : ℕ → ℕ) (size m n : ℕ) → h m < h n → m < size → rank h size m < rank h size n
rank_falls h size m n lt in_ = lower_more h (h m) (h n) m size (omega arith) lt in_

-- arcs stay in the graph, and fall
along_falls : (g : GraphMap) (is : IsGraph g) (from k n : ℕ) → from < length g.types → Along g from k n
    → (n < length g.types) × (k + rank is.height (length g.types) n ≤ rank is.height (length g.types) from)
along_falls g is from k n lt (stays) = (lt, omega arith)
along_falls g is from k n lt (further j m _ f a arc) =
    let before = along_falls g is from j m lt a in
    let inside : n < length g.types = is.numbered.table.arc_in m f n before.0 arc in
    (inside, omega (arith, before.1, rank_falls is.height (length g.types) n m (is.falls.falls m f n before.0 refl arc) inside))

pub along_in : (g : GraphMap) → IsGraph g → (from k n : ℕ) → from < length g.types → Along g from k n → n < length g.types
along_in g is from k n lt a = (along_falls g is from k n lt a).0

pub along_short : (g : GraphMap) → IsGraph g → (from k n : ℕ) → from < length g.types → Along g from k n → k < length g.types
along_short g is from k n lt a =
    let u = (along_falls g is from k n lt a).1 in
    omega (arith, u, rank_within is.height (length g.types) from lt)
