-- The steps of a depth-first visit.
use Rattle.std.proofs.Common.{ℕ, suc, ◌≡◌, ◌≢◌, ◌≤◌, ◌<◌, ◌+◌, ◌==◌, ◌⊎◌, inl, inr, Bool, true, false, cond, [], ◌∷◌, ◌++◌, refl, sym, ◌∙◌, ap, subst, arith, eq-eqb}
use Rattle.std.proofs.lemmas.Bool.{cases_lt, ne_eqb}
use Rattle.fs_model.specs.Numbering.{IsBefore}
use Rattle.fs_model.proofs.StepLemmas.{same_or_other}
use Rattle.fs_model.specs.DepthFirst.{Plan, IsArc, IsPlan, missing, View, Going}

-- a number for one place, and another function elsewhere
abbrev put_at : (n x : ℕ) → (ℕ → ℕ) → ℕ → ℕ
put_at n x f k = cond (k == n) x (f k)

put_here : (n x : ℕ) (f : ℕ → ℕ) → put_at n x f n ≡ x
put_here n x f = ap (λ b. cond b x (f n)) (eq-eqb n n refl)

put_other : (n x : ℕ) (f : ℕ → ℕ) (k : ℕ) → k ≢ n → put_at n x f k ≡ f k
put_other n x f k e = ap (λ b. cond b x (f k)) (ne_eqb k n e)

true_false : {b : Bool} → b ≡ true → b ≡ false → ⊥
true_false e d = let x : true ≡ false = sym e ∙ d in cc

-- the last open node, which has no arc left, is closed
module _ (p : Plan) (ok : IsPlan p) (v : View) (g : Going p v) (t n : ℕ) (closed : ℕ → Bool) (open_node next : ℕ → ℕ)
    (depth_is : v.depth ≡ t + 1) (top : v.open_node t ≡ n) (spent : v.next t ≡ p.start (n + 1))
    (closed_here : closed n ≡ true) (closed_other : (k : ℕ) → k ≢ n → closed k ≡ v.closed k)
    (open_is : (k : ℕ) → k < t → open_node k ≡ v.open_node k) (next_is : (k : ℕ) → k < t → next k ≡ v.next k) where
  abbrev after_closing : View
  after_closing = record { number = v.number; count = v.count; node_of = v.node_of; closed = closed; depth = t; open_node = open_node; next = next }

  t_in : t < v.depth
  t_in = omega arith

  wide : (k : ℕ) → k < t → k < v.depth
  wide k h = omega arith

  n_in : (n < p.nodes) × (v.number n ≢ missing)
  n_in = subst (λ z. (z < p.nodes) × (v.number z ≢ missing)) top (g.open_in t t_in)

  n_open : v.closed n ≡ false
  n_open = subst (λ z. v.closed z ≡ false) top (g.open_not t t_in)

  not_n : (k : ℕ) → v.closed k ≡ true → k ≢ n
  not_n k c e = true_false (subst (λ z. v.closed z ≡ true) e c) n_open

  still : (k : ℕ) → v.closed k ≡ true → closed k ≡ true
  still k c = closed_other k (not_n k c) ∙ c

  below_apart : (k : ℕ) → k < t → v.open_node k ≢ n
  below_apart k h e = g.distinct k t h t_in (e ∙ sym top)

  -- the arcs of the node that is closed
  n_arcs : (i : ℕ) → IsArc p n i → v.closed (p.to i) ≡ true
  n_arcs i arc = g.passed_last t i (sym depth_is)
      (subst (λ z. p.start z ≤ i) (sym top) arc.0)
      (subst (λ z. i < z) (sym spent) arc.1)

  abbrev height : ℕ → ℕ
  height = put_at n g.bound g.height

  height_here : height n ≡ g.bound
  height_here = put_here n g.bound g.height

  height_other : (k : ℕ) → k ≢ n → height k ≡ g.height k
  height_other k e = put_other n g.bound g.height k e

  done : (k : ℕ) → k < p.nodes → closed k ≡ true → (v.number k ≢ missing) × (height k < g.bound + 1)
  done k h c = go (same_or_other k n)
    where
      go : (k ≡ n) ⊎ (k ≢ n) → (v.number k ≢ missing) × (height k < g.bound + 1)
      go (inl e) = (subst (λ z. v.number z ≢ missing) (sym e) n_in.1, let r = ap height e ∙ height_here in omega arith)
      go (inr e) = let d = g.done k h (sym (closed_other k e) ∙ c) in let r = height_other k e in let l = d.1 in (d.0, omega arith)

  done_arcs : (k i : ℕ) → k < p.nodes → closed k ≡ true → IsArc p k i → (closed (p.to i) ≡ true) × (height (p.to i) < height k)
  done_arcs k i h c arc = go (same_or_other k n)
    where
      go : (k ≡ n) ⊎ (k ≢ n) → (closed (p.to i) ≡ true) × (height (p.to i) < height k)
      go (inl e) =
          let at : IsArc p n i = subst (λ z. IsArc p z i) e arc in
          let old = n_arcs i at in
          let low = (g.done (p.to i) (ok.to_in n i n_in.0 at) old).1 in
          let a = ap height e ∙ height_here in
          let b = height_other (p.to i) (not_n (p.to i) old) in
          (still (p.to i) old, omega arith)
      go (inr e) =
          let d = g.done_arcs k i h (sym (closed_other k e) ∙ c) arc in
          let a = height_other k e in
          let b = height_other (p.to i) (not_n (p.to i) d.0) in
          let l = d.1 in
          (still (p.to i) d.0, omega arith)

  closes_all : (k : ℕ) → k < p.nodes → v.number k ≢ missing → closed k ≡ false → (j : ℕ) × (j < t) × (open_node j ≡ k)
  closes_all k h met c = go (same_or_other k n)
    where
      go : (k ≡ n) ⊎ (k ≢ n) → (j : ℕ) × (j < t) × (open_node j ≡ k)
      go (inl e) = absurd (true_false (subst (λ z. closed z ≡ true) (sym e) closed_here) c)
      go (inr e) = at (g.open_all k h met (sym (closed_other k e) ∙ c))
        where
          at : (j : ℕ) × (j < v.depth) × (v.open_node j ≡ k) → (j : ℕ) × (j < t) × (open_node j ≡ k)
          at o = pick (cases_lt o.0 t)
            where
              pick : (o.0 < t) ⊎ (t ≤ o.0) → (j : ℕ) × (j < t) × (open_node j ≡ k)
              pick (inl l) = (o.0, l, open_is o.0 l ∙ o.2)
              pick (inr l) =
                  let low : o.0 < v.depth = o.1 in
                  let same : o.0 ≡ t = omega arith in
                  absurd (e (sym o.2 ∙ ap v.open_node same ∙ top))

  closes_last : (k i : ℕ) → k + 1 ≡ t → p.start (open_node k) ≤ i → i < next k → closed (p.to i) ≡ true
  closes_last k i e a b = go (cases_lt (i + 1) (v.next k))
    where
      k_in : k < t
      k_in = omega arith

      l : (j : ℕ) × (v.next k ≡ j + 1) × IsArc p (v.open_node k) j × (p.to j ≡ v.open_node (suc k)) × (g.paths (suc k) ≡ g.paths k ++ p.feat j ∷ [])
      l = g.link k (omega arith)

      b' : i < v.next k
      b' = subst (λ z. i < z) (next_is k k_in) b

      go : (i + 1 < v.next k) ⊎ (v.next k ≤ i + 1) → closed (p.to i) ≡ true
      go (inl h) = still (p.to i) (g.passed k i (wide k k_in) (subst (λ z. p.start z ≤ i) (open_is k k_in) a) h)
      go (inr h) =
          let is : v.next k ≡ l.0 + 1 = l.1 in
          let same : i ≡ l.0 = omega (arith, b', l.1) in
          let up : suc k ≡ t = omega arith in
          subst (λ z. closed z ≡ true) (sym (ap p.to same ∙ l.3 ∙ ap v.open_node up ∙ top)) closed_here

  pub going_closes : Going p after_closing
  going_closes = record {
    met = g.met;
    ordered = g.ordered;
    root = g.root;
    few = g.few;
    least = g.least;
    leads = g.leads;
    is_least = g.is_least;
    rises = g.rises;
    height = height;
    bound = g.bound + 1;
    done = done;
    done_arcs = done_arcs;
    paths = g.paths;
    open_in = λ k h. subst (λ z. (z < p.nodes) × (v.number z ≢ missing)) (sym (open_is k h)) (g.open_in k (wide k h));
    open_next = λ k h.
        subst (λ z. (p.start z ≤ next k) × (next k ≤ p.start (z + 1))) (sym (open_is k h))
        (subst (λ y. (p.start (v.open_node k) ≤ y) × (y ≤ p.start (v.open_node k + 1))) (sym (next_is k h)) (g.open_next k (wide k h)));
    open_not = λ k h.
        subst (λ z. closed z ≡ false) (sym (open_is k h)) (closed_other (v.open_node k) (below_apart k h) ∙ g.open_not k (wide k h));
    distinct = λ j k h i e. g.distinct j k h (wide k i) (sym (open_is j (omega arith)) ∙ e ∙ open_is k i);
    open_all = closes_all;
    base = λ h. let b = g.base (omega arith) in (open_is 0 h ∙ b.0, b.1);
    link = λ k h.
        let l = g.link k (omega arith) in
        let k_in : k < t = omega arith in (
          l.0,
          next_is k k_in ∙ l.1,
          subst (λ z. IsArc p z l.0) (sym (open_is k k_in)) l.2,
          l.3 ∙ sym (open_is (suc k) h),
          l.4,
        );
    passed = λ k i h a b.
        still (p.to i) (g.passed k i (wide k h) (subst (λ z. p.start z ≤ i) (open_is k h) a) (subst (λ z. i + 1 < z) (next_is k h) b));
    passed_last = closes_last;
    after = λ k i j h a b c.
        g.after k i j (wide k h) (subst (λ z. z ≤ i) (next_is k h) a) (subst (λ z. i < p.start (z + 1)) (open_is k h) b) c;
  }

-- the next arc of the last open node leads to a node that is done with
module _ (p : Plan) (v : View) (g : Going p v) (t i : ℕ) (next : ℕ → ℕ) (depth_is : v.depth ≡ t + 1) (arc : IsArc p (v.open_node t) i)
    (at : v.next t ≡ i) (next_here : next t ≡ i + 1) (next_is : (k : ℕ) → k < t → next k ≡ v.next k) (old : v.closed (p.to i) ≡ true) where
  abbrev after_passing : View
  after_passing = record { number = v.number; count = v.count; node_of = v.node_of; closed = v.closed; depth = v.depth; open_node = v.open_node; next = next }

  -- a place of an open node is the last one, or one below it
  split : (k : ℕ) → k < v.depth → (k < t) ⊎ (k ≡ t)
  split k h = go (cases_lt k t)
    where
      go : (k < t) ⊎ (t ≤ k) → (k < t) ⊎ (k ≡ t)
      go (inl l) = inl l
      go (inr l) = inr (omega arith)

  pub going_passes : Going p after_passing
  going_passes = record {
    met = g.met;
    ordered = g.ordered;
    root = g.root;
    few = g.few;
    least = g.least;
    leads = g.leads;
    is_least = g.is_least;
    rises = g.rises;
    height = g.height;
    bound = g.bound;
    done = g.done;
    done_arcs = g.done_arcs;
    paths = g.paths;
    open_in = g.open_in;
    open_next = open_next;
    open_not = g.open_not;
    distinct = g.distinct;
    open_all = g.open_all;
    base = g.base;
    link = λ k h. let l = g.link k h in (l.0, next_is k (omega arith) ∙ l.1, l.2, l.3, l.4);
    passed = passed;
    passed_last = passed_last;
    after = after;
  }
    where
      open_next : (k : ℕ) → k < v.depth → (p.start (v.open_node k) ≤ next k) × (next k ≤ p.start (v.open_node k + 1))
      open_next k h = go (split k h)
        where
          go : (k < t) ⊎ (k ≡ t) → (p.start (v.open_node k) ≤ next k) × (next k ≤ p.start (v.open_node k + 1))
          go (inl l) = subst (λ y. (p.start (v.open_node k) ≤ y) × (y ≤ p.start (v.open_node k + 1))) (sym (next_is k l)) (g.open_next k h)
          go (inr e) =
              let low = arc.0 in
              let high = arc.1 in
              subst (λ z. (p.start (v.open_node z) ≤ next z) × (next z ≤ p.start (v.open_node z + 1))) (sym e) (omega arith, omega arith)

      passed : (k j : ℕ) → k < v.depth → p.start (v.open_node k) ≤ j → j + 1 < next k → v.closed (p.to j) ≡ true
      passed k j h a b = go (split k h)
        where
          go : (k < t) ⊎ (k ≡ t) → v.closed (p.to j) ≡ true
          go (inl l) = g.passed k j h a (subst (λ z. j + 1 < z) (next_is k l) b)
          go (inr e) =
              let b' : j + 1 < i + 1 = subst (λ z. j + 1 < z) (ap next e ∙ next_here) b in
              g.passed_last t j (sym depth_is) (subst (λ z. p.start (v.open_node z) ≤ j) e a) (omega arith)

      passed_last : (k j : ℕ) → k + 1 ≡ v.depth → p.start (v.open_node k) ≤ j → j < next k → v.closed (p.to j) ≡ true
      passed_last k j d a b = go (cases_lt j i)
        where
          e : k ≡ t
          e = omega arith

          b' : j < i + 1
          b' = subst (λ z. j < z) (ap next e ∙ next_here) b

          go : (j < i) ⊎ (i ≤ j) → v.closed (p.to j) ≡ true
          go (inl l) = g.passed_last t j (sym depth_is) (subst (λ z. p.start (v.open_node z) ≤ j) e a) (omega arith)
          go (inr l) = let same : i ≡ j = omega (arith, b') in subst (λ z. v.closed (p.to z) ≡ true) same old

      after : (k j m : ℕ) → k < v.depth → next k ≤ j → j < p.start (v.open_node k + 1) → m < v.count → IsBefore (g.least m) (g.paths k ++ p.feat j ∷ [])
      after k j m h a b c = go (split k h)
        where
          go : (k < t) ⊎ (k ≡ t) → IsBefore (g.least m) (g.paths k ++ p.feat j ∷ [])
          go (inl l) = g.after k j m h (subst (λ z. z ≤ j) (next_is k l) a) b c
          go (inr e) =
              let a' : i + 1 ≤ j = subst (λ z. z ≤ j) (ap next e ∙ next_here) a in
              g.after k j m h (let n = ap v.next e in omega arith) b c
