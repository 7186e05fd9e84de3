-- The step of a depth-first visit that meets a node.
use Rattle.std.proofs.Common.{ℕ, suc, ◌≡◌, ◌≢◌, ◌≤◌, ◌<◌, ◌+◌, ◌-◌, ◌==◌, ◌⊎◌, inl, inr, true, false, cond, [], ◌∷◌, ◌++◌, refl, sym, ◌∙◌, ap, subst, arith, append_assoc, eq-eqb}
use Rattle.std.proofs.lemmas.Bool.{cases_lt, ne_eqb}
use Rattle.fs_model.specs.Claims.{Path}
use Rattle.fs_model.specs.Numbering.{IsBefore}
use Rattle.fs_model.proofs.StepLemmas.{same_or_other}
use Rattle.fs_model.specs.DepthFirst.{Plan, IsArc, IsPlan, Leads, missing, View, Going}
use Rattle.fs_model.proofs.PathLemmas.{before_further, before_extension, before_branch}
use Rattle.fs_model.proofs.VisitLemmas.{bool_cases, Leads-arc, open_leads, new_least, paths_extend}

-- the next arc of the last open node leads to a node that is met for the first time
module _ (p : Plan) (ok : IsPlan p) (v : View) (g : Going p v) (t i : ℕ) (number node_of : ℕ → ℕ) (open_node next : ℕ → ℕ)
    (depth_is : v.depth ≡ t + 1) (arc : IsArc p (v.open_node t) i) (at : v.next t ≡ i) (new : v.number (p.to i) ≡ missing)
    (room : v.count < missing)
    (number_here : number (p.to i) ≡ v.count) (number_other : (k : ℕ) → k ≢ p.to i → number k ≡ v.number k)
    (node_here : node_of v.count ≡ p.to i) (node_other : (k : ℕ) → k < v.count → node_of k ≡ v.node_of k)
    (open_here : open_node (t + 1) ≡ p.to i) (open_is : (k : ℕ) → k < t + 1 → open_node k ≡ v.open_node k)
    (next_new : next (t + 1) ≡ p.start (p.to i)) (next_here : next t ≡ i + 1) (next_is : (k : ℕ) → k < t → next k ≡ v.next k) where
  abbrev n : ℕ
  n = p.to i

  abbrev path : Path
  path = g.paths t ++ p.feat i ∷ []

  abbrev after_entering : View
  after_entering = record { number = number; count = v.count + 1; node_of = node_of; closed = v.closed; depth = t + 2; open_node = open_node; next = next }

  top_in : t < v.depth
  top_in = omega arith

  new_in : n < p.nodes
  new_in = ok.to_in (v.open_node t) i (g.open_in t top_in).0 arc

  -- a node that was met isn't the new one
  met_apart : (k : ℕ) → v.number k ≢ missing → k ≢ n
  met_apart k m e = m (ap v.number e ∙ new)

  still_met : (k : ℕ) → v.number k ≢ missing → number k ≢ missing
  still_met k m e = m (sym (number_other k (met_apart k m)) ∙ e)

  here_met : number n ≢ missing
  here_met e = let r = number_here in omega arith

  new_open : v.closed n ≡ false
  new_open = go (bool_cases (v.closed n))
    where
      go : (v.closed n ≡ true) ⊎ (v.closed n ≡ false) → v.closed n ≡ false
      go (inl c) = absurd ((g.done n new_in c).0 new)
      go (inr c) = c

  -- a number is an old one, or the new one
  old_or_new : (k : ℕ) → k < v.count + 1 → (k < v.count) ⊎ (k ≡ v.count)
  old_or_new k h = go (cases_lt k v.count)
    where
      go : (k < v.count) ⊎ (v.count ≤ k) → (k < v.count) ⊎ (k ≡ v.count)
      go (inl l) = inl l
      go (inr l) = inr (omega arith)

  -- an open node is an old one, or the new one
  under_or_new : (k : ℕ) → k < t + 2 → (k < t + 1) ⊎ (k ≡ t + 1)
  under_or_new k h = go (cases_lt k (t + 1))
    where
      go : (k < t + 1) ⊎ (t + 1 ≤ k) → (k < t + 1) ⊎ (k ≡ t + 1)
      go (inl l) = inl l
      go (inr l) = inr (omega arith)

  in_depth : (k : ℕ) → k < t + 1 → k < v.depth
  in_depth k h = omega arith

  met : (k : ℕ) → k < p.nodes → number k ≢ missing → (number k < v.count + 1) × (node_of (number k) ≡ k)
  met k h m = go (same_or_other k n)
    where
      go : (k ≡ n) ⊎ (k ≢ n) → (number k < v.count + 1) × (node_of (number k) ≡ k)
      go (inl e) =
          let is : number k ≡ v.count = ap number e ∙ number_here in
          (omega arith, ap node_of is ∙ node_here ∙ sym e)
      go (inr e) =
          let is : number k ≡ v.number k = number_other k e in
          let old = g.met k h (λ z. m (is ∙ z)) in
          let low = old.0 in
          (omega arith, ap node_of is ∙ node_other (v.number k) low ∙ old.1)

  ordered : (k : ℕ) → k < v.count + 1 → (node_of k < p.nodes) × (number (node_of k) ≡ k)
  ordered k h = go (old_or_new k h)
    where
      go : (k < v.count) ⊎ (k ≡ v.count) → (node_of k < p.nodes) × (number (node_of k) ≡ k)
      go (inl l) =
          let is = node_other k l in
          let old = g.ordered k l in
          let apart : v.node_of k ≢ n = met_apart (v.node_of k) (λ z. let r = old.1 in let few = g.few in absurd (omega arith)) in
          (subst (λ z. z < p.nodes) (sym is) old.0, ap number is ∙ number_other (v.node_of k) apart ∙ old.1)
      go (inr e) =
          let is : node_of k ≡ n = ap node_of e ∙ node_here in
          (subst (λ z. z < p.nodes) (sym is) new_in, ap number is ∙ number_here ∙ sym e)

  abbrev least : ℕ → Path
  least k = cond (k == v.count) path (g.least k)

  least_here : least v.count ≡ path
  least_here = ap (λ b. cond b path (g.least v.count)) (eq-eqb v.count v.count refl)

  least_other : (k : ℕ) → k < v.count → least k ≡ g.least k
  least_other k h = ap (λ b. cond b path (g.least k)) (ne_eqb k v.count (λ e. absurd (omega arith)))

  abbrev paths : ℕ → Path
  paths k = cond (k == t + 1) path (g.paths k)

  paths_here : paths (t + 1) ≡ path
  paths_here = ap (λ b. cond b path (g.paths (t + 1))) (eq-eqb (t + 1) (t + 1) refl)

  paths_other : (k : ℕ) → k < t + 1 → paths k ≡ g.paths k
  paths_other k h = ap (λ b. cond b path (g.paths k)) (ne_eqb k (t + 1) (λ e. absurd (omega arith)))

  leads_here : Leads p 0 path n
  leads_here = Leads-arc p 0 (v.open_node t) i (g.paths t) (open_leads p ok v g t top_in) arc

  leads : (k : ℕ) → k < v.count + 1 → Leads p 0 (least k) (node_of k)
  leads k h = go (old_or_new k h)
    where
      go : (k < v.count) ⊎ (k ≡ v.count) → Leads p 0 (least k) (node_of k)
      go (inl l) =
          subst (λ z. Leads p 0 z (node_of k)) (sym (least_other k l)) (subst (λ z. Leads p 0 (g.least k) z) (sym (node_other k l)) (g.leads k l))
      go (inr e) =
          subst (λ z. Leads p 0 (least z) (node_of z)) (sym e)
          (subst (λ z. Leads p 0 z (node_of v.count)) (sym least_here) (subst (λ z. Leads p 0 path z) (sym node_here) leads_here))

  is_least : (k : ℕ) (q : Path) → k < v.count + 1 → Leads p 0 q (node_of k) → (least k ≡ q) ⊎ IsBefore (least k) q
  is_least k q h a = go (old_or_new k h)
    where
      go : (k < v.count) ⊎ (k ≡ v.count) → (least k ≡ q) ⊎ IsBefore (least k) q
      go (inl l) =
          subst (λ z. (z ≡ q) ⊎ IsBefore z q) (sym (least_other k l))
          (g.is_least k q l (subst (λ z. Leads p 0 q z) (node_other k l) a))
      go (inr e) =
          subst (λ z. (z ≡ q) ⊎ IsBefore z q) (sym (ap least e ∙ least_here))
          (new_least p ok v g t i top_in arc new
          (λ j b c. g.passed_last t j (sym depth_is) b (subst (λ z. j < z) (sym at) c)) q
          (subst (λ z. Leads p 0 q z) (ap node_of e ∙ node_here) a))

  -- the old least paths are before the new one
  older : (k : ℕ) → k < v.count → IsBefore (g.least k) path
  older k h = g.after t i k top_in (omega arith) arc.1 h

  rises : (j k : ℕ) → j < k → k < v.count + 1 → IsBefore (least j) (least k)
  rises j k h l = go (old_or_new k l)
    where
      go : (k < v.count) ⊎ (k ≡ v.count) → IsBefore (least j) (least k)
      go (inl m) =
          subst (λ z. IsBefore z (least k)) (sym (least_other j (omega arith)))
          (subst (λ z. IsBefore (g.least j) z) (sym (least_other k m)) (g.rises j k h m))
      go (inr e) =
          let low : j < v.count = omega arith in
          subst (λ z. IsBefore z (least k)) (sym (least_other j low))
          (subst (λ z. IsBefore (g.least j) z) (sym (ap least e ∙ least_here)) (older j low))

  -- where an open node stands: below the last old one, at it, or at the new one
  stands : (k : ℕ) → k < t + 2 → (k < t) ⊎ (k ≡ t) ⊎ (k ≡ t + 1)
  stands k h = go (cases_lt k t) (cases_lt k (t + 1))
    where
      go : (k < t) ⊎ (t ≤ k) → (k < t + 1) ⊎ (t + 1 ≤ k) → (k < t) ⊎ (k ≡ t) ⊎ (k ≡ t + 1)
      go (inl l) _ = inl l
      go (inr l) (inl m) = inr (inl (omega arith))
      go (inr l) (inr m) = inr (inr (omega arith))

  open_in : (k : ℕ) → k < t + 2 → (open_node k < p.nodes) × (number (open_node k) ≢ missing)
  open_in k h = go (under_or_new k h)
    where
      go : (k < t + 1) ⊎ (k ≡ t + 1) → (open_node k < p.nodes) × (number (open_node k) ≢ missing)
      go (inl l) =
          let old = g.open_in k (in_depth k l) in
          subst (λ z. (z < p.nodes) × (number z ≢ missing)) (sym (open_is k l)) (old.0, still_met (v.open_node k) old.1)
      go (inr e) = subst (λ z. (z < p.nodes) × (number z ≢ missing)) (sym (ap open_node e ∙ open_here)) (new_in, here_met)

  open_next : (k : ℕ) → k < t + 2 → (p.start (open_node k) ≤ next k) × (next k ≤ p.start (open_node k + 1))
  open_next k h = go (stands k h)
    where
      go : (k < t) ⊎ (k ≡ t) ⊎ (k ≡ t + 1) → (p.start (open_node k) ≤ next k) × (next k ≤ p.start (open_node k + 1))
      go (inl l) =
          subst (λ z. (p.start z ≤ next k) × (next k ≤ p.start (z + 1))) (sym (open_is k (omega arith)))
          (subst (λ y. (p.start (v.open_node k) ≤ y) × (y ≤ p.start (v.open_node k + 1))) (sym (next_is k l)) (g.open_next k (omega arith)))
      go (inr (inl e)) =
          let low = arc.0 in
          let high = arc.1 in
          subst (λ z. (p.start (open_node z) ≤ next z) × (next z ≤ p.start (open_node z + 1))) (sym e)
          (subst (λ z. (p.start z ≤ next t) × (next t ≤ p.start (z + 1))) (sym (open_is t (omega arith))) (omega arith, omega arith))
      go (inr (inr e)) =
          let high = ok.rise n new_in in
          subst (λ z. (p.start (open_node z) ≤ next z) × (next z ≤ p.start (open_node z + 1))) (sym e)
          (subst (λ z. (p.start z ≤ next (t + 1)) × (next (t + 1) ≤ p.start (z + 1))) (sym open_here) (omega arith, omega arith))

  open_not : (k : ℕ) → k < t + 2 → v.closed (open_node k) ≡ false
  open_not k h = go (under_or_new k h)
    where
      go : (k < t + 1) ⊎ (k ≡ t + 1) → v.closed (open_node k) ≡ false
      go (inl l) = ap v.closed (open_is k l) ∙ g.open_not k (in_depth k l)
      go (inr e) = ap v.closed (ap open_node e ∙ open_here) ∙ new_open

  distinct : (j k : ℕ) → j < k → k < t + 2 → open_node j ≢ open_node k
  distinct j k h l e = go (under_or_new k l)
    where
      go : (k < t + 1) ⊎ (k ≡ t + 1) → ⊥
      go (inl m) = g.distinct j k h (in_depth k m) (sym (open_is j (omega arith)) ∙ e ∙ open_is k m)
      go (inr m) =
          let low : j < t + 1 = omega arith in
          met_apart (v.open_node j) (g.open_in j (in_depth j low)).1 (sym (open_is j low) ∙ e ∙ ap open_node m ∙ open_here)

  open_all : (k : ℕ) → k < p.nodes → number k ≢ missing → v.closed k ≡ false → (j : ℕ) × (j < t + 2) × (open_node j ≡ k)
  open_all k h m c = go (same_or_other k n)
    where
      go : (k ≡ n) ⊎ (k ≢ n) → (j : ℕ) × (j < t + 2) × (open_node j ≡ k)
      go (inl e) = (t + 1, omega arith, open_here ∙ sym e)
      go (inr e) =
          let o = g.open_all k h (λ z. m (number_other k e ∙ z)) c in
          let low : o.0 < v.depth = o.1 in
          let under : o.0 < t + 1 = omega arith in
          (o.0, omega arith, open_is o.0 under ∙ o.2)

  link : (k : ℕ) → suc k < t + 2 →
      (j : ℕ) × (next k ≡ j + 1) × IsArc p (open_node k) j × (p.to j ≡ open_node (suc k)) × (paths (suc k) ≡ paths k ++ p.feat j ∷ [])
  link k h = go (cases_lt k t)
    where
      go : (k < t) ⊎ (t ≤ k) →
          (j : ℕ) × (next k ≡ j + 1) × IsArc p (open_node k) j × (p.to j ≡ open_node (suc k)) × (paths (suc k) ≡ paths k ++ p.feat j ∷ [])
      go (inl l) =
          let o = g.link k (omega arith) in (
            o.0,
            next_is k l ∙ o.1,
            subst (λ z. IsArc p z o.0) (sym (open_is k (omega arith))) o.2,
            o.3 ∙ sym (open_is (suc k) (omega arith)),
            paths_other (suc k) (omega arith) ∙ o.4 ∙ ap (λ z. z ++ p.feat o.0 ∷ []) (sym (paths_other k (omega arith))),
          )
      go (inr l) =
          let e : k ≡ t = omega arith in
          let up : suc k ≡ t + 1 = omega arith in (
            i,
            ap next e ∙ next_here,
            subst (λ z. IsArc p z i) (sym (ap open_node e ∙ open_is t (omega arith))) arc,
            sym (ap open_node up ∙ open_here),
            ap paths up ∙ paths_here ∙ ap (λ z. z ++ p.feat i ∷ []) (sym (ap paths e ∙ paths_other t (omega arith))),
          )

  passed : (k j : ℕ) → k < t + 2 → p.start (open_node k) ≤ j → j + 1 < next k → v.closed (p.to j) ≡ true
  passed k j h a b = go (stands k h)
    where
      go : (k < t) ⊎ (k ≡ t) ⊎ (k ≡ t + 1) → v.closed (p.to j) ≡ true
      go (inl l) = g.passed k j (omega arith) (subst (λ z. p.start z ≤ j) (open_is k (omega arith)) a) (subst (λ z. j + 1 < z) (next_is k l) b)
      go (inr (inl e)) =
          let b' : j + 1 < i + 1 = subst (λ z. j + 1 < z) (ap next e ∙ next_here) b in
          g.passed_last t j (sym depth_is) (subst (λ z. p.start z ≤ j) (ap open_node e ∙ open_is t (omega arith)) a) (omega arith)
      go (inr (inr e)) =
          let a' : p.start n ≤ j = subst (λ z. p.start z ≤ j) (ap open_node e ∙ open_here) a in
          let b' : j + 1 < p.start n = subst (λ z. j + 1 < z) (ap next e ∙ next_new) b in
          absurd (omega arith)

  passed_last : (k j : ℕ) → k + 1 ≡ t + 2 → p.start (open_node k) ≤ j → j < next k → v.closed (p.to j) ≡ true
  passed_last k j d a b =
      let e : k ≡ t + 1 = omega arith in
      let a' : p.start n ≤ j = subst (λ z. p.start z ≤ j) (ap open_node e ∙ open_here) a in
      let b' : j < p.start n = subst (λ z. j < z) (ap next e ∙ next_new) b in
      absurd (omega arith)

  -- the new path is before what is left at the open nodes
  new_before : (k j : ℕ) → k < t + 1 → next k ≤ j → j < p.start (v.open_node k + 1) → IsBefore path (g.paths k ++ p.feat j ∷ [])
  new_before k j h a b = go (cases_lt k t)
    where
      go : (k < t) ⊎ (t ≤ k) → IsBefore path (g.paths k ++ p.feat j ∷ [])
      go (inl l) =
          let m : ℕ = t - k - 1 in
          let there : k + suc m ≡ t = omega arith in
          let up = paths_extend p ok v g k m (omega arith) in
          let arc' = up.3 in
          let low : up.0 + 1 ≤ j = subst (λ z. z ≤ j) (next_is k l ∙ up.2) a in
          let rises = ok.rising (v.open_node k) up.0 j (g.open_in k (in_depth k h)).0 arc'.0 (omega arith) b in
          let is : path ≡ g.paths k ++ p.feat up.0 ∷ (up.1 ++ p.feat i ∷ []) =
          ap (λ z. g.paths z ++ p.feat i ∷ []) (sym there) ∙ ap (λ z. z ++ p.feat i ∷ []) up.4
          ∙ append_assoc (g.paths k) (p.feat up.0 ∷ up.1) (p.feat i ∷ []) in
          subst (λ z. IsBefore z (g.paths k ++ p.feat j ∷ [])) (sym is) (before_branch (g.paths k) (p.feat up.0) (p.feat j) (up.1 ++ p.feat i ∷ []) [] rises)
      go (inr l) =
          let e : k ≡ t = omega arith in
          let a' : i + 1 ≤ j = subst (λ z. z ≤ j) (ap next e ∙ next_here) a in
          let b' : j < p.start (v.open_node t + 1) = subst (λ z. j < p.start (v.open_node z + 1)) e b in
          let rises = ok.rising (v.open_node t) i j (g.open_in t top_in).0 arc.0 (omega arith) b' in
          subst (λ z. IsBefore path (g.paths z ++ p.feat j ∷ [])) (sym e) (before_branch (g.paths t) (p.feat i) (p.feat j) [] [] rises)

  after : (k j m : ℕ) → k < t + 2 → next k ≤ j → j < p.start (open_node k + 1) → m < v.count + 1 → IsBefore (least m) (paths k ++ p.feat j ∷ [])
  after k j m h a b c = go (under_or_new k h) (old_or_new m c)
    where
      go : (k < t + 1) ⊎ (k ≡ t + 1) → (m < v.count) ⊎ (m ≡ v.count) → IsBefore (least m) (paths k ++ p.feat j ∷ [])
      go (inl l) (inl o) =
          subst (λ z. IsBefore z (paths k ++ p.feat j ∷ [])) (sym (least_other m o))
          (subst (λ z. IsBefore (g.least m) (z ++ p.feat j ∷ [])) (sym (paths_other k l))
          (g.after k j m (in_depth k l) (lower (cases_lt k t)) (subst (λ z. j < p.start (z + 1)) (open_is k l) b) o))
        where
          lower : (k < t) ⊎ (t ≤ k) → v.next k ≤ j
          lower (inl x) = subst (λ z. z ≤ j) (next_is k x) a
          lower (inr x) =
              let e : k ≡ t = omega arith in
              let a' : i + 1 ≤ j = subst (λ z. z ≤ j) (ap next e ∙ next_here) a in
              subst (λ z. v.next z ≤ j) (sym e) (omega arith)
      go (inl l) (inr o) =
          subst (λ z. IsBefore z (paths k ++ p.feat j ∷ [])) (sym (ap least o ∙ least_here))
          (subst (λ z. IsBefore path (z ++ p.feat j ∷ [])) (sym (paths_other k l))
          (new_before k j l a (subst (λ z. j < p.start (z + 1)) (open_is k l) b)))
      go (inr e) (inl o) =
          subst (λ z. IsBefore z (paths k ++ p.feat j ∷ [])) (sym (least_other m o))
          (subst (λ z. IsBefore (g.least m) (z ++ p.feat j ∷ [])) (sym (ap paths e ∙ paths_here)) (before_further (p.feat j ∷ []) (older m o)))
      go (inr e) (inr o) =
          subst (λ z. IsBefore z (paths k ++ p.feat j ∷ [])) (sym (ap least o ∙ least_here))
          (subst (λ z. IsBefore path (z ++ p.feat j ∷ [])) (sym (ap paths e ∙ paths_here)) (before_extension path (p.feat j) []))

  pub going_enters : Going p after_entering
  going_enters = record {
    met = met;
    ordered = ordered;
    root = (omega arith, let r = g.root in node_other 0 r.0 ∙ r.1);
    few = omega arith;
    least = least;
    leads = leads;
    is_least = is_least;
    rises = rises;
    height = g.height;
    bound = g.bound;
    done = λ k h c. let d = g.done k h c in (still_met k d.0, d.1);
    done_arcs = g.done_arcs;
    paths = paths;
    open_in = open_in;
    open_next = open_next;
    open_not = open_not;
    distinct = distinct;
    open_all = open_all;
    base = λ h. let b = g.base (omega arith) in (open_is 0 (omega arith) ∙ b.0, paths_other 0 (omega arith) ∙ b.1);
    link = link;
    passed = passed;
    passed_last = passed_last;
    after = after;
  }
