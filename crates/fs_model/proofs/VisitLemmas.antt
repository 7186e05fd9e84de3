-- What a depth-first visit knows as it goes.
use Rattle.std.proofs.Common.{ℕ, zero, suc, ◌≡◌, ◌≢◌, ◌≤◌, ◌<◌, ◌+◌, ◌-◌, ◌⊎◌, inl, inr, Bool, true, false, [], ◌∷◌, ◌++◌, length, refl, sym, ◌∙◌, ap, subst, arith, append_assoc, append-nil}
use Rattle.std.proofs.lemmas.Bool.{cases_lt}
use Rattle.fs_model.specs.Claims.{Path}
use Rattle.fs_model.specs.Numbering.{IsBefore}
use Rattle.fs_model.specs.DepthFirst.{Plan, IsArc, IsPlan, Leads, ends, goes, missing, View, Going, IsSettled}
use Rattle.fs_model.proofs.PathLemmas.{compare_paths, not_before_nil, before_longer}

pub bool_cases : (b : Bool) → (b ≡ true) ⊎ (b ≡ false)
bool_cases true = inl refl
bool_cases false = inr refl

pub Leads-append : (p : Plan) (n m k : ℕ) (a b : Path) → Leads p n a m → Leads p m b k → Leads p n (a ++ b) k
Leads-append p n _ k _ b (ends _) y = y
Leads-append p n m k _ b (goes _ i f _ a arc is x) y = goes n i f k (a ++ b) arc is (Leads-append p (p.to i) m k a b x y)

pub Leads-arc : (p : Plan) (n m i : ℕ) (a : Path) → Leads p n a m → IsArc p m i → Leads p n (a ++ p.feat i ∷ []) (p.to i)
Leads-arc p n m i a x arc = Leads-append p n m (p.to i) a (p.feat i ∷ []) x (goes m i (p.feat i) (p.to i) [] arc refl (ends (p.to i)))

pub Leads-in : (p : Plan) → IsPlan p → (n k : ℕ) (a : Path) → n < p.nodes → Leads p n a k → k < p.nodes
Leads-in p ok n _ _ h (ends _) = h
Leads-in p ok n k _ h (goes _ i f _ a arc is x) = Leads-in p ok (p.to i) k a (ok.to_in n i h arc) x

-- a node has one arc with a feature
one_arc : (p : Plan) → IsPlan p → (n i j : ℕ) → n < p.nodes → IsArc p n i → IsArc p n j → p.feat i ≡ p.feat j → i ≡ j
one_arc p ok n i j h a b e = go (cases_lt i j) (cases_lt j i)
  where
    go : (i < j) ⊎ (j ≤ i) → (j < i) ⊎ (i ≤ j) → i ≡ j
    go (inl x) _ = let r = ok.rising n i j h a.0 x b.1 in absurd (omega arith)
    go (inr x) (inl y) = let r = ok.rising n j i h b.0 y a.1 in absurd (omega arith)
    go (inr x) (inr y) = omega arith

-- the rest of a path
pub Leads-rest : (p : Plan) → IsPlan p → (n m k : ℕ) (a b : Path) → n < p.nodes → Leads p n a m → Leads p n (a ++ b) k → Leads p m b k
Leads-rest p ok n _ k _ b h (ends _) y = y
Leads-rest p ok n m k _ b h (goes _ i f _ a arc is x) (goes _ j _ _ _ arc' is' y) =
    Leads-rest p ok (p.to i) m k a b (ok.to_in n i h arc) x
    (subst (λ z. Leads p (p.to z) (a ++ b) k) (one_arc p ok n j i h arc' arc (is' ∙ sym is)) y)

pub Leads-one : (p : Plan) → IsPlan p → (n m k : ℕ) (a : Path) → n < p.nodes → Leads p n a m → Leads p n a k → m ≡ k
Leads-one p ok n m k a h x y = same k [] refl (Leads-rest p ok n m k a [] h x (subst (λ z. Leads p n z k) (sym (append-nil a)) y))
  where
    same : (k : ℕ) (b : Path) → b ≡ [] → Leads p m b k → m ≡ k
    same _ _ e (ends _) = refl
    same k _ e (goes _ i f _ b arc is x) = absurd cc

module _ (p : Plan) (ok : IsPlan p) (v : View) (g : Going p v) where
  pub closed_reach : (n k : ℕ) (a : Path) → n < p.nodes → v.closed n ≡ true → Leads p n a k → (k < p.nodes) × (v.closed k ≡ true)
  closed_reach n _ _ h c (ends _) = (h, c)
  closed_reach n k _ h c (goes _ i f _ a arc is x) = closed_reach (p.to i) k a (ok.to_in n i h arc) (g.done_arcs n i h c arc).0 x

  pub open_leads : (k : ℕ) → k < v.depth → Leads p 0 (g.paths k) (v.open_node k)
  open_leads zero h =
      let b = g.base h in
      subst (λ z. Leads p 0 z (v.open_node 0)) (sym b.1) (subst (λ z. Leads p 0 [] z) (sym b.0) (ends 0))
  open_leads (suc k) h =
      let l = g.link k h in
      let before : k < v.depth = omega arith in
      subst (λ z. Leads p 0 z (v.open_node (suc k))) (sym l.4)
      (subst (λ z. Leads p 0 (g.paths k ++ p.feat l.0 ∷ []) z) l.3 (Leads-arc p 0 (v.open_node k) l.0 (g.paths k) (open_leads k before) l.2))

  pub root_in : 0 < p.nodes
  root_in = subst (λ z. z < p.nodes) g.root.1 (g.ordered 0 g.root.0).0

  -- a path that goes past an open node by an arc that was passed
  beyond : (k f : ℕ) → k < v.depth → ((i : ℕ) → IsArc p (v.open_node k) i → p.feat i < f → v.closed (p.to i) ≡ true) →
      (e x : ℕ) (r : Path) → e < f → Leads p (v.open_node k) (e ∷ r) x → (x < p.nodes) × (v.number x ≢ missing)
  beyond k f h all e x _ l (goes _ i _ _ r arc is y) =
      let c = all i arc (subst (λ z. z < f) (sym is) l) in
      let end = closed_reach (p.to i) x r (ok.to_in (v.open_node k) i (g.open_in k h).0 arc) c y in
      (end.0, (g.done x end.0 end.1).0)

  -- each path before the next one from an open node leads to a node that was met
  pub frontier : (k f : ℕ) → k < v.depth → ((i : ℕ) → IsArc p (v.open_node k) i → p.feat i < f → v.closed (p.to i) ≡ true) →
      (q : Path) (x : ℕ) → IsBefore q (g.paths k ++ f ∷ []) → Leads p 0 q x → (x < p.nodes) × (v.number x ≢ missing)
  frontier k f h all q x b leads = go (before_longer (g.paths k) q f b)
    where
      from_open : (k : ℕ) → k < v.depth → (r : Path) → q ≡ g.paths k ++ r → Leads p (v.open_node k) r x
      from_open k h r e = Leads-rest p ok 0 (v.open_node k) x (g.paths k) r root_in (open_leads k h) (subst (λ z. Leads p 0 z x) e leads)

      open_end : (k : ℕ) → k < v.depth → q ≡ g.paths k → (x < p.nodes) × (v.number x ≢ missing)
      open_end k h e =
          let same = Leads-one p ok 0 (v.open_node k) x (g.paths k) root_in (open_leads k h) (subst (λ z. Leads p 0 z x) e leads) in
          subst (λ z. (z < p.nodes) × (v.number z ≢ missing)) same (g.open_in k h)

      go : IsBefore q (g.paths k) ⊎ (q ≡ g.paths k) ⊎ ((e : ℕ) × (r : Path) × (e < f) × (q ≡ g.paths k ++ e ∷ r)) →
          (x < p.nodes) × (v.number x ≢ missing)
      go (inl a) = earlier k h a
        where
          earlier : (k : ℕ) → k < v.depth → IsBefore q (g.paths k) → (x < p.nodes) × (v.number x ≢ missing)
          earlier zero h a = absurd (not_before_nil q (subst (λ z. IsBefore q z) (g.base h).1 a))
          earlier (suc k) h a =
              let l = g.link k h in
              let before : k < v.depth = omega arith in
              between k before l.0 l.1 l.2 (earlier k before) (before_longer (g.paths k) q (p.feat l.0) (subst (λ z. IsBefore q z) l.4 a))
            where
              between : (k : ℕ) → k < v.depth → (i : ℕ) → v.next k ≡ i + 1 → IsArc p (v.open_node k) i →
                  (IsBefore q (g.paths k) → (x < p.nodes) × (v.number x ≢ missing)) →
                  IsBefore q (g.paths k) ⊎ (q ≡ g.paths k) ⊎ ((e : ℕ) × (r : Path) × (e < p.feat i) × (q ≡ g.paths k ++ e ∷ r)) →
                  (x < p.nodes) × (v.number x ≢ missing)
              between k h i is arc rec (inl a) = rec a
              between k h i is arc rec (inr (inl e)) = open_end k h e
              between k h i is arc rec (inr (inr e)) =
                  beyond k (p.feat i) h (λ j a l. g.passed k j h a.0 (under j a l)) e.0 x e.1 e.2 (from_open k h (e.0 ∷ e.1) e.3)
                where
                  under : (j : ℕ) → IsArc p (v.open_node k) j → p.feat j < p.feat i → j + 1 < v.next k
                  under j a l = pick (cases_lt j i)
                    where
                      pick : (j < i) ⊎ (i ≤ j) → j + 1 < v.next k
                      pick (inl y) = omega arith
                      pick (inr y) = absurd (not_less (cases_lt i j))
                        where
                          not_less : (i < j) ⊎ (j ≤ i) → ⊥
                          not_less (inl z) = let r = ok.rising (v.open_node k) i j (g.open_in k h).0 arc.0 z a.1 in omega arith
                          not_less (inr z) = let same : i ≡ j = omega arith in let r = ap p.feat same in omega arith
      go (inr (inl e)) = open_end k h e
      go (inr (inr e)) = beyond k f h all e.0 x e.1 e.2 (from_open k h (e.0 ∷ e.1) e.3)

  -- a node that is met by the next arc for the first time is met by its least path
  pub new_least : (k i : ℕ) → k < v.depth → IsArc p (v.open_node k) i → v.number (p.to i) ≡ missing →
      ((j : ℕ) → p.start (v.open_node k) ≤ j → j < i → v.closed (p.to j) ≡ true) → (q : Path) → Leads p 0 q (p.to i) →
      (g.paths k ++ p.feat i ∷ [] ≡ q) ⊎ IsBefore (g.paths k ++ p.feat i ∷ []) q
  new_least k i h arc new passed q leads = go (compare_paths (g.paths k ++ p.feat i ∷ []) q)
    where
      below : (j : ℕ) → IsArc p (v.open_node k) j → p.feat j < p.feat i → v.closed (p.to j) ≡ true
      below j a l = pick (cases_lt j i)
        where
          pick : (j < i) ⊎ (i ≤ j) → v.closed (p.to j) ≡ true
          pick (inl y) = passed j a.0 y
          pick (inr y) = absurd (not_less (cases_lt i j))
            where
              not_less : (i < j) ⊎ (j ≤ i) → ⊥
              not_less (inl z) = let r = ok.rising (v.open_node k) i j (g.open_in k h).0 arc.0 z a.1 in omega arith
              not_less (inr z) = let same : i ≡ j = omega arith in let r = ap p.feat same in omega arith

      go : (g.paths k ++ p.feat i ∷ [] ≡ q) ⊎ IsBefore (g.paths k ++ p.feat i ∷ []) q ⊎ IsBefore q (g.paths k ++ p.feat i ∷ []) →
          (g.paths k ++ p.feat i ∷ [] ≡ q) ⊎ IsBefore (g.paths k ++ p.feat i ∷ []) q
      go (inl e) = inl e
      go (inr (inl b)) = inr b
      go (inr (inr b)) = absurd ((frontier k (p.feat i) h below q (p.to i) b leads).1 new)

  -- from an open node to one that was opened later
  pub climbs : (j k : ℕ) → j + k < v.depth → (r : Path) × Leads p (v.open_node j) r (v.open_node (j + k))
  climbs j zero h = ([], subst (λ z. Leads p (v.open_node j) [] z) (ap v.open_node (let e : j ≡ j + 0 = omega arith in e)) (ends (v.open_node j)))
  climbs j (suc k) h =
      let at : suc (j + k) < v.depth = omega arith in
      let up = climbs j k (omega arith) in
      let l = g.link (j + k) at in
      let last = subst (λ z. Leads p (v.open_node j) (up.0 ++ p.feat l.0 ∷ []) z) l.3 (Leads-arc p (v.open_node j) (v.open_node (j + k)) l.0 up.0 up.1 l.2) in
      let same : suc (j + k) ≡ j + suc k = omega arith in
      (up.0 ++ p.feat l.0 ∷ [], subst (λ z. Leads p (v.open_node j) (up.0 ++ p.feat l.0 ∷ []) (v.open_node z)) same last)

  -- the path to an open node goes on from the path to one below it, along the arc that was passed last there
  pub paths_extend : (j k : ℕ) → j + suc k < v.depth →
      (i : ℕ) × (r : Path) × (v.next j ≡ i + 1) × IsArc p (v.open_node j) i × (g.paths (j + suc k) ≡ g.paths j ++ p.feat i ∷ r)
  paths_extend j zero h =
      let l = g.link j (omega arith) in
      let same : suc j ≡ j + 1 = omega arith in
      (l.0, [], l.1, l.2, subst (λ z. g.paths z ≡ g.paths j ++ p.feat l.0 ∷ []) same l.4)
  paths_extend j (suc k) h =
      let at : suc (j + suc k) < v.depth = omega arith in
      let up = paths_extend j k (omega arith) in
      let l = g.link (j + suc k) at in
      let same : suc (j + suc k) ≡ j + suc (suc k) = omega arith in
      let longer : g.paths (suc (j + suc k)) ≡ g.paths j ++ p.feat up.0 ∷ (up.1 ++ p.feat l.0 ∷ []) =
      l.4 ∙ ap (λ z. z ++ p.feat l.0 ∷ []) up.4 ∙ append_assoc (g.paths j) (p.feat up.0 ∷ up.1) (p.feat l.0 ∷ []) in
      (up.0, up.1 ++ p.feat l.0 ∷ [], up.2, up.3, subst (λ z. g.paths z ≡ g.paths j ++ p.feat up.0 ∷ (up.1 ++ p.feat l.0 ∷ [])) same longer)

  -- an arc to an open node closes a cycle
  pub cycle_found : (t i : ℕ) → v.depth ≡ t + 1 → IsArc p (v.open_node t) i → v.number (p.to i) ≢ missing → v.closed (p.to i) ≡ false →
      ((q : Path) × Leads p 0 q (p.to i)) × ((q : Path) × (q ≢ []) × Leads p (p.to i) q (p.to i))
  cycle_found t i d arc met not_closed =
      let in_plan = ok.to_in (v.open_node t) i (g.open_in t (omega arith)).0 arc in
      let o = g.open_all (p.to i) in_plan met not_closed in
      let up = climbs o.0 (t - o.0) (let h : o.0 < v.depth = o.1 in omega arith) in
      let same : o.0 + (t - o.0) ≡ t = (let h : o.0 < v.depth = o.1 in omega arith) in
      let to_top = subst (λ z. Leads p (v.open_node o.0) up.0 (v.open_node z)) same up.1 in
      let round = Leads-arc p (v.open_node o.0) (v.open_node t) i up.0 to_top arc in (
        (g.paths o.0, subst (λ z. Leads p 0 (g.paths o.0) z) o.2 (open_leads o.0 o.1)),
        (up.0 ++ p.feat i ∷ [], not_nil up.0 (p.feat i), subst (λ z. Leads p z (up.0 ++ p.feat i ∷ []) (p.to i)) o.2 round),
      )
    where
      not_nil : (r : Path) (f : ℕ) → r ++ f ∷ [] ≢ []
      not_nil [] f e = cc
      not_nil (x ∷ r) f e = cc

  heights_fall : (n k : ℕ) (a : Path) → n < p.nodes → v.closed n ≡ true → Leads p n a k → g.height k + length a ≤ g.height n
  heights_fall n _ _ h c (ends _) = omega arith
  heights_fall n k _ h c (goes _ i f _ a arc is x) =
      let d = g.done_arcs n i h c arc in
      omega (arith, heights_fall (p.to i) k a (ok.to_in n i h arc) d.0 x, d.1)

  -- where no node is open, all is found
  module _ (over : v.depth ≡ 0) where
    closed_all : (n : ℕ) → n < p.nodes → v.number n ≢ missing → v.closed n ≡ true
    closed_all n h met = go (bool_cases (v.closed n))
      where
        go : (v.closed n ≡ true) ⊎ (v.closed n ≡ false) → v.closed n ≡ true
        go (inl c) = c
        go (inr c) = let o = g.open_all n h met c in let low : o.0 < v.depth = o.1 in absurd (omega arith)

    number_met : (i : ℕ) → i < v.count → v.number (v.node_of i) ≢ missing
    number_met i h e = let same = (g.ordered i h).1 in let few = g.few in absurd (omega arith)

    closed_at : (i : ℕ) → i < v.count → v.closed (v.node_of i) ≡ true
    closed_at i h = closed_all (v.node_of i) (g.ordered i h).0 (number_met i h)

    arc_closed : (i j : ℕ) → i < v.count → IsArc p (v.node_of i) j → (p.to j < p.nodes) × (v.number (p.to j) ≢ missing)
    arc_closed i j h arc =
        let at = ok.to_in (v.node_of i) j (g.ordered i h).0 arc in
        (at, (g.done (p.to j) at (g.done_arcs (v.node_of i) j (g.ordered i h).0 (closed_at i h) arc).0).0)

    pub settles : IsSettled p v.number v.node_of v.count
    settles = record {
      root = g.root;
      few = g.few;
      ordered = g.ordered;
      arcs = λ i j h arc. let at = arc_closed i j h arc in g.met (p.to j) at.0 at.1;
      least = g.least;
      leads = g.leads;
      is_least = g.is_least;
      rises = g.rises;
      height = g.height;
      falls = λ i j h arc. (g.done_arcs (v.node_of i) j (g.ordered i h).0 (closed_at i h) arc).1;
    }

    -- nothing that the root reaches reaches itself
    pub settled_acyclic : (n : ℕ) (q r : Path) → Leads p 0 q n → r ≢ [] → Leads p n r n → ⊥
    settled_acyclic n q r a apart b =
        let root_closed : v.closed 0 ≡ true = subst (λ z. v.closed z ≡ true) g.root.1 (closed_at 0 g.root.0) in
        let end = closed_reach 0 n q root_in root_closed a in
        let fall = heights_fall n n r end.0 end.1 b in
        let long = nonempty r apart in
        absurd (omega arith)
      where
        nonempty : (r : Path) → r ≢ [] → 0 < length r
        nonempty [] e = absurd (e refl)
        nonempty (x ∷ r) e = omega arith
