-- The steps that link, merge and lower.
use Rattle.std.proofs.Common.{ℕ, ◌≡◌, ◌≢◌, ◌<◌, ◌⊎◌, inl, inr, true, Some, List, [], ◌∷◌, ◌++◌, refl, sym, ◌∙◌, ap, subst, append-nil}
use Rattle.fs_model.specs.Claims.{Path, Claim, exists_at, same, below, at, System, IsOrder, Has, here, there}
use Rattle.fs_model.specs.Closure.{Closure, same_exists, same_sym, same_trans, same_extend, same_type, met, raised, constrained}
use Rattle.fs_model.specs.Table.{Table, IsTable, NodeClaim, is_there, is_same, is_under, from, Stated, by_node, by_arc, by_merge, by_type, by_work, Follows, stated, same_back, same_on, under_same, under_higher, read}
use Rattle.fs_model.specs.Steps.{InTable, Closes, Merges, Lowers}
use Rattle.fs_model.proofs.StepLemmas.{Follows-grows, complete_after, arc_follows, same_or_other}

pub read-from : (w : ℕ → Path) (n : ℕ) (d : Claim) → read w (from n d) ≡ at (w n) d
read-from w n (exists_at q) = refl
read-from w n (same q r) = refl
read-from w n (below q u) = refl

pub ends_bare : (s : System) (g : Claim → Type 0) (p q : Path) → Closure s g (same (p ++ []) (q ++ [])) → Closure s g (same p q)
ends_bare s g p q a =
    subst (λ x. Closure s g (same p x)) (append-nil q) (subst (λ x. Closure s g (same x (q ++ []))) (append-nil p) a)

pub ends_whole : (s : System) (g : Claim → Type 0) (p q : Path) → Closure s g (same p q) → Closure s g (same (p ++ []) (q ++ []))
ends_whole s g p q a =
    subst (λ x. Closure s g (same (p ++ []) x)) (sym (append-nil q)) (subst (λ x. Closure s g (same x q)) (sym (append-nil p)) a)

module _ (s : System) (g : Claim → Type 0) (t t' : Table) (rest work' : List NodeClaim) (w : ℕ → Path) (n m : ℕ)
    (h : n < t.size) (i : m < t.size) (apart : t.live n ≢ t.live m) (new : Merges t t' rest work' (t.live n) (t.live m))
    (old : Closes s g t (is_same n [] m [] ∷ rest) w) where
  abbrev a : ℕ
  a = t.live n

  abbrev b : ℕ
  b = t.live m

  wide : (k : ℕ) → k < t.size → k < t'.size
  wide k x = subst (λ y. k < y) (sym new.size_is) x

  narrow : (k : ℕ) → k < t'.size → k < t.size
  narrow k x = subst (λ y. k < y) new.size_is x

  b_live : t.live b ≡ b
  b_live = old.table.live_twice m

  a_live : t.live a ≡ a
  a_live = old.table.live_twice n

  merged_table : IsTable t'
  merged_table = record {
    live_in = λ k x. live_in k (narrow k x) (same_or_other (t.live k) b);
    live_twice = λ k. live_twice k (same_or_other (t.live k) b);
    arc_in = λ k f l x e. wide l (old.table.arc_in k f l (narrow k x) (sym (new.arc_is k f (narrow k x)) ∙ e));
  }
    where
      live_in : (k : ℕ) → k < t.size → (t.live k ≡ b) ⊎ (t.live k ≢ b) → t'.live k < t'.size
      live_in k x (inl e) = subst (λ y. y < t'.size) (sym (new.live_b k e)) (wide a (old.table.live_in n h))
      live_in k x (inr e) = subst (λ y. y < t'.size) (sym (new.live_other k e)) (wide (t.live k) (old.table.live_in k x))

      live_twice : (k : ℕ) → (t.live k ≡ b) ⊎ (t.live k ≢ b) → t'.live (t'.live k) ≡ t'.live k
      live_twice k (inl e) =
          ap t'.live (new.live_b k e) ∙ new.live_other a (λ q. apart (sym a_live ∙ q)) ∙ a_live ∙ sym (new.live_b k e)
      live_twice k (inr e) =
          ap t'.live (new.live_other k e) ∙ new.live_other (t.live k) (λ q. e (sym (old.table.live_twice k) ∙ q))
          ∙ old.table.live_twice k ∙ sym (new.live_other k e)

  b_to_a : Follows s t' work' (is_same b [] a [])
  b_to_a =
      subst (λ y. Follows s t' work' (is_same b [] y [])) (new.live_b b b_live)
      (stated _ (by_merge b (wide b (old.table.live_in m i))))

  to_a : (k : ℕ) → k < t.size → t.live k ≡ b → Follows s t' work' (is_same k [] a [])
  to_a k x e = subst (λ y. Follows s t' work' (is_same k [] y [])) (new.live_b k e) (stated _ (by_merge k (wide k x)))

  kept : (d : NodeClaim) → Stated t (is_same n [] m [] ∷ rest) d → Follows s t' work' d
  kept _ (by_node k x) = stated _ (by_node k (wide k x))
  kept _ (by_arc k f l x e is) = go (same_or_other k b)
    where
      go : (k ≡ b) ⊎ (k ≢ b) → Follows s t' work' (is_same k (f ∷ []) l [])
      go (inl q) =
          subst (λ y. Follows s t' work' (is_same y (f ∷ []) l [])) (sym q)
          (arc_follows s t' work' b a f l b_to_a
          (stated _ (by_work _ (new.work_arcs f l (ap (λ y. t.arc y f) (sym q) ∙ is)))))
      go (inr q) =
          stated _ (by_arc k f l (wide k x) (new.live_other k (λ z. q (sym e ∙ z)) ∙ e) (new.arc_is k f x ∙ is))
  kept _ (by_merge k x) = go (same_or_other (t.live k) b)
    where
      go : (t.live k ≡ b) ⊎ (t.live k ≢ b) → Follows s t' work' (is_same k [] (t.live k) [])
      go (inl q) =
          subst (λ y. Follows s t' work' (is_same k [] y [])) (sym q) (same_on _ _ _ _ _ _ (to_a k x q) (same_back _ _ _ _ b_to_a))
      go (inr q) = subst (λ y. Follows s t' work' (is_same k [] y [])) (new.live_other k q) (stated _ (by_merge k (wide k x)))
  kept _ (by_type k x e) = go (same_or_other k b)
    where
      go : (k ≡ b) ⊎ (k ≢ b) → Follows s t' work' (is_under k [] (t.type_of k))
      go (inl q) =
          subst (λ y. Follows s t' work' (is_under y [] (t.type_of y))) (sym q)
          (under_same _ _ _ _ _ (same_back _ _ _ _ b_to_a) (stated _ (by_work _ new.work_type)))
      go (inr q) =
          subst (λ y. Follows s t' work' (is_under k [] y)) (new.type_is k x)
          (stated _ (by_type k (wide k x) (new.live_other k (λ z. q (sym e ∙ z)) ∙ e)))
  kept _ (by_work _ here) =
      same_on _ _ _ _ _ _
      (subst (λ y. Follows s t' work' (is_same n [] y [])) (new.live_other n apart) (stated _ (by_merge n (wide n h))))
      (same_back _ _ _ _ (to_a m i refl))
  kept _ (by_work d (there x)) = stated _ (by_work _ (new.work_rest d x))

  -- a live node of the new table was live and isn't the merged one
  was_live : (k : ℕ) → t'.live k ≡ k → (t.live k ≡ k) × (t.live k ≢ b)
  was_live k e = go (same_or_other (t.live k) b)
    where
      go : (t.live k ≡ b) ⊎ (t.live k ≢ b) → (t.live k ≡ k) × (t.live k ≢ b)
      go (inl q) = absurd (apart (sym a_live ∙ ap t.live (sym (new.live_b k q) ∙ e) ∙ q))
      go (inr q) = (sym (new.live_other k q) ∙ e, q)

  a_same_b : Closure s g (same (w a) (w b))
  a_same_b =
      let n_a = ends_bare s g (w n) (w a) (old.sound.stated_in _ (by_merge n h)) in
      let m_b = ends_bare s g (w m) (w b) (old.sound.stated_in _ (by_merge m i)) in
      let n_m = ends_bare s g (w n) (w m) (old.sound.stated_in _ (by_work _ here)) in
      same_trans _ _ _ (same_sym _ _ n_a) (same_trans _ _ _ n_m m_b)

  said : (d : NodeClaim) → Stated t' work' d → Closure s g (read w d)
  said _ (by_node k x) = old.sound.stated_in _ (by_node k (narrow k x))
  said _ (by_arc k f l x e is) =
      old.sound.stated_in _ (by_arc k f l (narrow k x) (was_live k e).0 (sym (new.arc_is k f (narrow k x)) ∙ is))
  said _ (by_merge k x) = go (same_or_other (t.live k) b)
    where
      go : (t.live k ≡ b) ⊎ (t.live k ≢ b) → Closure s g (same (w k ++ []) (w (t'.live k) ++ []))
      go (inl q) =
          let k_b = subst (λ y. Closure s g (same (w k) (w y))) q (ends_bare s g _ _ (old.sound.stated_in _ (by_merge k (narrow k x)))) in
          subst (λ y. Closure s g (same (w k ++ []) (w y ++ []))) (sym (new.live_b k q))
          (ends_whole s g _ _ (same_trans _ _ _ k_b (same_sym _ _ a_same_b)))
      go (inr q) =
          subst (λ y. Closure s g (same (w k ++ []) (w y ++ []))) (sym (new.live_other k q)) (old.sound.stated_in _ (by_merge k (narrow k x)))
  said _ (by_type k x e) =
      subst (λ y. Closure s g (below (w k ++ []) y)) (sym (new.type_is k (narrow k x)))
      (old.sound.stated_in _ (by_type k (narrow k x) (was_live k e).0))
  said _ (by_work d x) = go (new.work_only d x)
    where
      go : (d ≡ is_under a [] (t.type_of b)) ⊎ ((f : ℕ) × (l : ℕ) × (t.arc b f ≡ Some l) × (d ≡ is_same a (f ∷ []) l [])) ⊎ Has d rest →
          Closure s g (read w d)
      go (inl e) =
          subst (λ y. Closure s g (read w y)) (sym e)
          (subst (λ y. Closure s g (below y (t.type_of b))) (sym (append-nil (w a))) type_at)
        where
          type_at : Closure s g (below (w a) (t.type_of b))
          type_at =
              same_type _ _ _ (same_sym _ _ a_same_b)
              (subst (λ y. Closure s g (below y (t.type_of b))) (append-nil (w b))
              (old.sound.stated_in _ (by_type b (old.table.live_in m i) b_live)))
      go (inr (inl q)) =
          subst (λ y. Closure s g (read w y)) (sym q.3)
          (same_trans _ _ _ (same_sym _ _ (same_extend _ _ (q.0 ∷ []) (same_sym _ _ a_same_b) (same_exists _ _ arc_of_b))) arc_of_b)
        where
          arc_of_b : Closure s g (same (w b ++ q.0 ∷ []) (w q.1 ++ []))
          arc_of_b = old.sound.stated_in _ (by_arc b q.0 q.1 (old.table.live_in m i) b_live q.2)
      go (inr (inr x)) = old.sound.stated_in _ (by_work d (there x))

  pub Closes-merges : Closes s g t' work' w
  Closes-merges = record {
    table = merged_table;
    filled = wide 0 old.filled;
    in_table = λ d x. ranges d (new.work_only d x);
    sound = record { root = old.sound.root; stated_in = said };
    complete = complete_after s g t t' _ work' old.complete kept
        (λ k f l x e is. Follows-grows s t t' _ work' kept _
        (old.complete.introduces k f l (narrow k x) (was_live k e).0 (sym (new.arc_is k f (narrow k x)) ∙ is)))
        (λ k u c x e z y. Follows-grows s t t' _ work' kept _
        (old.complete.constrains k u c (narrow k x) (was_live k e).0 (subst (λ v. s.is_below v u ≡ true) (new.type_is k (narrow k x)) z) y));
  }
    where
      wider : (d : NodeClaim) → InTable t.size d → InTable t'.size d
      wider (is_there k p) x = wide k x
      wider (is_same k p l q) x = (wide k x.0, wide l x.1)
      wider (is_under k p u) x = wide k x

      ranges : (d : NodeClaim) →
          (d ≡ is_under a [] (t.type_of b)) ⊎ ((f : ℕ) × (l : ℕ) × (t.arc b f ≡ Some l) × (d ≡ is_same a (f ∷ []) l [])) ⊎ Has d rest →
          InTable t'.size d
      ranges d (inl e) = subst (λ y. InTable t'.size y) (sym e) (wide a (old.table.live_in n h))
      ranges d (inr (inl q)) =
          subst (λ y. InTable t'.size y) (sym q.3)
          (wide a (old.table.live_in n h), wide q.1 (old.table.arc_in b q.0 q.1 (old.table.live_in m i) q.2))
      ranges d (inr (inr x)) = wider d (old.in_table d (there x))

module _ (s : System) (o : IsOrder s) (g : Claim → Type 0) (t t' : Table) (rest work' : List NodeClaim) (w : ℕ → Path) (n u v : ℕ)
    (h : n < t.size) (new : Lowers s t t' rest work' (t.live n) u v)
    (old : Closes s g t (is_under n [] u ∷ rest) w) where
  abbrev l : ℕ
  l = t.live n

  abbrev is_in : ℕ → Type 0
  is_in k = k < t.size

  to_new : (k : ℕ) → k < t.size → k < t'.size
  to_new k x = subst (λ y. k < y) (sym new.size_is) x

  to_old : (k : ℕ) → k < t'.size → k < t.size
  to_old k x = subst (λ y. k < y) new.size_is x

  l_in : l < t.size
  l_in = old.table.live_in n h

  l_live : t.live l ≡ l
  l_live = old.table.live_twice n

  lowered_table : IsTable t'
  lowered_table = record {
    live_in = λ k x. subst (λ y. y < t'.size) (sym (new.live_is k)) (to_new (t.live k) (old.table.live_in k (to_old k x)));
    live_twice = λ k. ap t'.live (new.live_is k) ∙ new.live_is (t.live k) ∙ old.table.live_twice k ∙ sym (new.live_is k);
    arc_in = λ k f x z e. to_new x (old.table.arc_in k f x (to_old k z) (sym (new.arc_is k f (to_old k z)) ∙ e));
  }

  l_under : Follows s t' work' (is_under l [] v)
  l_under =
      subst (λ y. Follows s t' work' (is_under l [] y)) new.type_here
      (stated _ (by_type l (to_new l l_in) (new.live_is l ∙ l_live)))

  lower_kept : (d : NodeClaim) → Stated t (is_under n [] u ∷ rest) d → Follows s t' work' d
  lower_kept _ (by_node k x) = stated _ (by_node k (to_new k x))
  lower_kept _ (by_arc k f x z e is) = stated _ (by_arc k f x (to_new k z) (new.live_is k ∙ e) (new.arc_is k f z ∙ is))
  lower_kept _ (by_merge k x) =
      subst (λ y. Follows s t' work' (is_same k [] y [])) (new.live_is k) (stated _ (by_merge k (to_new k x)))
  lower_kept _ (by_type k x e) = go (same_or_other k l)
    where
      go : (k ≡ l) ⊎ (k ≢ l) → Follows s t' work' (is_under k [] (t.type_of k))
      go (inl q) =
          subst (λ y. Follows s t' work' (is_under y [] (t.type_of y))) (sym q)
          (under_higher _ _ _ _ l_under (o.meet_below _ _ _ new.meet_is).0)
      go (inr q) =
          subst (λ y. Follows s t' work' (is_under k [] y)) (new.type_other k x q) (stated _ (by_type k (to_new k x) (new.live_is k ∙ e)))
  lower_kept _ (by_work _ here) =
      under_same _ _ _ _ _
      (same_back _ _ _ _ (subst (λ y. Follows s t' work' (is_same n [] y [])) (new.live_is n) (stated _ (by_merge n (to_new n h)))))
      (under_higher _ _ _ _ l_under (o.meet_below _ _ _ new.meet_is).1)
  lower_kept _ (by_work d (there x)) = stated _ (by_work _ (new.work_rest d x))

  l_below : Closure s g (below (w l) v)
  l_below =
      let n_l = ends_bare s g (w n) (w l) (old.sound.stated_in _ (by_merge n h)) in
      let l_type = subst (λ y. Closure s g (below y (t.type_of l))) (append-nil (w l)) (old.sound.stated_in _ (by_type l l_in l_live)) in
      let n_type = subst (λ y. Closure s g (below y u)) (append-nil (w n)) (old.sound.stated_in _ (by_work _ here)) in
      met _ _ _ _ l_type (same_type _ _ _ n_l n_type) new.meet_is

  lower_said : (d : NodeClaim) → Stated t' work' d → Closure s g (read w d)
  lower_said _ (by_node k x) = old.sound.stated_in _ (by_node k (to_old k x))
  lower_said _ (by_arc k f x z e is) =
      old.sound.stated_in _ (by_arc k f x (to_old k z) (sym (new.live_is k) ∙ e) (sym (new.arc_is k f (to_old k z)) ∙ is))
  lower_said _ (by_merge k x) =
      subst (λ y. Closure s g (same (w k ++ []) (w y ++ []))) (sym (new.live_is k)) (old.sound.stated_in _ (by_merge k (to_old k x)))
  lower_said _ (by_type k x e) = go (same_or_other k l)
    where
      go : (k ≡ l) ⊎ (k ≢ l) → Closure s g (below (w k ++ []) (t'.type_of k))
      go (inl q) =
          subst (λ y. Closure s g (below (w y ++ []) (t'.type_of y))) (sym q)
          (subst (λ y. Closure s g (below (w l ++ []) y)) (sym new.type_here)
          (subst (λ y. Closure s g (below y v)) (sym (append-nil (w l))) l_below))
      go (inr q) =
          subst (λ y. Closure s g (below (w k ++ []) y)) (sym (new.type_other k (to_old k x) q))
          (old.sound.stated_in _ (by_type k (to_old k x) (sym (new.live_is k) ∙ e)))
  lower_said _ (by_work d x) = go (new.work_only d x)
    where
      go : ((y : ℕ) × (c : Claim) × (s.is_below v y ≡ true) × Has c (s.facts_of y) × (d ≡ from l c)) ⊎ Has d rest → Closure s g (read w d)
      go (inl q) =
          subst (λ y. Closure s g (read w y)) (sym q.4)
          (subst (λ y. Closure s g y) (sym (read-from w l q.1)) (constrained _ _ _ (raised _ _ _ l_below q.2) q.3))
      go (inr y) = old.sound.stated_in _ (by_work d (there y))

  pub Closes-lowers : Closes s g t' work' w
  Closes-lowers = record {
    table = lowered_table;
    filled = to_new 0 old.filled;
    in_table = λ d x. ranges d (new.work_only d x);
    sound = record { root = old.sound.root; stated_in = lower_said };
    complete = complete_after s g t t' _ work' old.complete lower_kept
        (λ k f x z e is. Follows-grows s t t' _ work' lower_kept _
        (old.complete.introduces k f x (to_old k z) (sym (new.live_is k) ∙ e) (sym (new.arc_is k f (to_old k z)) ∙ is)))
        (λ k y c x e b z. constrains k y c (to_old k x) (sym (new.live_is k) ∙ e) b z (same_or_other k l));
  }
    where
      wider : (d : NodeClaim) → InTable t.size d → InTable t'.size d
      wider (is_there k p) x = to_new k x
      wider (is_same k p m q) x = (to_new k x.0, to_new m x.1)
      wider (is_under k p y) x = to_new k x

      at_l : (c : Claim) → InTable t'.size (from l c)
      at_l (exists_at p) = to_new l l_in
      at_l (same p q) = (to_new l l_in, to_new l l_in)
      at_l (below p y) = to_new l l_in

      ranges : (d : NodeClaim) →
          ((y : ℕ) × (c : Claim) × (s.is_below v y ≡ true) × Has c (s.facts_of y) × (d ≡ from l c)) ⊎ Has d rest → InTable t'.size d
      ranges d (inl q) = subst (λ y. InTable t'.size y) (sym q.4) (at_l q.1)
      ranges d (inr x) = wider d (old.in_table d (there x))

      constrains : (k y : ℕ) (c : Claim) → k < t.size → t.live k ≡ k → s.is_below (t'.type_of k) y ≡ true → Has c (s.facts_of y) →
          (k ≡ l) ⊎ (k ≢ l) → Follows s t' work' (from k c)
      constrains k y c x e b z (inr q) = Follows-grows s t t' _ work' lower_kept _
          (old.complete.constrains k y c x e (subst (λ a. s.is_below a y ≡ true) (new.type_other k x q) b) z)
      constrains k y c x e b z (inl q) =
          subst (λ a. Follows s t' work' (from a c)) (sym q)
          (go (new.work_facts y c (subst (λ a. s.is_below a y ≡ true) (ap t'.type_of q ∙ new.type_here) b) z))
        where
          go : (s.is_below (t.type_of l) y ≡ true) ⊎ Has (from l c) work' → Follows s t' work' (from l c)
          go (inl a) = Follows-grows s t t' _ work' lower_kept _ (old.complete.constrains l y c l_in l_live a z)
          go (inr a) = stated _ (by_work _ a)
