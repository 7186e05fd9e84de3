-- The step that links, the start, and the two ways in which a closure is inconsistent.
use Rattle.std.proofs.Common.{ℕ, ◌≡◌, ◌≢◌, ◌<◌, ◌⊎◌, inl, inr, true, Some, None, List, [], ◌∷◌, ◌++◌, refl, sym, ◌∙◌, ap, subst, append-nil, arith}
use Rattle.fs_model.specs.Claims.{Path, Claim, exists_at, same, below, System, IsBare, Has, here, there}
use Rattle.fs_model.specs.Closure.{Closure, given_claim, same_exists, same_refl, same_sym, same_trans, same_type, introduced, topped, IsConsistent}
use Rattle.fs_model.specs.Table.{Table, IsTable, NodeClaim, is_there, is_same, is_under, from, Stated, by_node, by_arc, by_merge, by_type, by_work, Follows, stated, read}
use Rattle.fs_model.specs.Steps.{InTable, Closes, Starts, Links}
use Rattle.fs_model.proofs.StepLemmas.{Follows-grows, complete_after, arc_follows, same_or_other, at_live}
use Rattle.fs_model.proofs.MoreSteps.{ends_bare}

module _ (s : System) (g : Claim → Type 0) (t t' : Table) (rest : List NodeClaim) (w : ℕ → Path) (n f m : ℕ)
    (h : n < t.size) (i : m < t.size) (new : Links t t' (t.live n) f m) (empty : t.arc (t.live n) f ≡ None)
    (old : Closes s g t (is_same n (f ∷ []) m [] ∷ rest) w) where
  abbrev l : ℕ
  l = t.live n

  abbrev linked_work : List NodeClaim
  linked_work = is_under (t.live n) [] (s.introducer f) ∷ rest

  to_new : (k : ℕ) → k < t.size → k < t'.size
  to_new k x = subst (λ y. k < y) (sym new.size_is) x

  to_old : (k : ℕ) → k < t'.size → k < t.size
  to_old k x = subst (λ y. k < y) new.size_is x

  l_in : l < t.size
  l_in = old.table.live_in n h

  l_live : t.live l ≡ l
  l_live = old.table.live_twice n

  -- an arc of the new table is the new one or an old one
  which : (k x j : ℕ) → k < t.size → t'.arc k x ≡ Some j → ((k ≡ l) × (x ≡ f) × (j ≡ m)) ⊎ (t.arc k x ≡ Some j)
  which k x j a e = go (same_or_other k l) (same_or_other x f)
    where
      go : (k ≡ l) ⊎ (k ≢ l) → (x ≡ f) ⊎ (x ≢ f) → ((k ≡ l) × (x ≡ f) × (j ≡ m)) ⊎ (t.arc k x ≡ Some j)
      go (inr q) _ = inr (sym (new.arc_old k x a (inl q)) ∙ e)
      go (inl _) (inr q) = inr (sym (new.arc_old k x a (inr q)) ∙ e)
      go (inl p) (inl q) =
          inl (p, q, (let r : Some j ≡ Some m = sym e ∙ ap (λ y. t'.arc y x) p ∙ ap (λ y. t'.arc l y) q ∙ new.arc_here in cc))

  linked_table : IsTable t'
  linked_table = record {
    live_in = λ k x. subst (λ y. y < t'.size) (sym (new.live_is k)) (to_new (t.live k) (old.table.live_in k (to_old k x)));
    live_twice = λ k. ap t'.live (new.live_is k) ∙ new.live_is (t.live k) ∙ old.table.live_twice k ∙ sym (new.live_is k);
    arc_in = λ k x j z e. arc_in k x j (to_old k z) (which k x j (to_old k z) e);
  }
    where
      arc_in : (k x j : ℕ) → k < t.size → ((k ≡ l) × (x ≡ f) × (j ≡ m)) ⊎ (t.arc k x ≡ Some j) → j < t'.size
      arc_in k x j z (inl q) = subst (λ y. y < t'.size) (sym q.2) (to_new m i)
      arc_in k x j z (inr q) = to_new j (old.table.arc_in k x j z q)

  new_arc : Follows s t' linked_work (is_same l (f ∷ []) m [])
  new_arc = stated _ (by_arc l f m (to_new l l_in) (new.live_is l ∙ l_live) new.arc_here)

  kept : (d : NodeClaim) → Stated t (is_same n (f ∷ []) m [] ∷ rest) d → Follows s t' linked_work d
  kept _ (by_node k x) = stated _ (by_node k (to_new k x))
  kept _ (by_arc k x j z e is) = go (same_or_other k l) (same_or_other x f)
    where
      still : (k ≢ l) ⊎ (x ≢ f) → Follows s t' linked_work (is_same k (x ∷ []) j [])
      still d = stated _ (by_arc k x j (to_new k z) (new.live_is k ∙ e) (new.arc_old k x z d ∙ is))

      go : (k ≡ l) ⊎ (k ≢ l) → (x ≡ f) ⊎ (x ≢ f) → Follows s t' linked_work (is_same k (x ∷ []) j [])
      go (inr q) _ = still (inl q)
      go (inl _) (inr q) = still (inr q)
      go (inl p) (inl q) = absurd (let b : None ≡ Some j = sym empty ∙ ap (λ y. t.arc y f) (sym p) ∙ ap (λ y. t.arc k y) (sym q) ∙ is in cc)
  kept _ (by_merge k x) = subst (λ y. Follows s t' linked_work (is_same k [] y [])) (new.live_is k) (stated _ (by_merge k (to_new k x)))
  kept _ (by_type k x e) =
      subst (λ y. Follows s t' linked_work (is_under k [] y)) (new.type_is k x) (stated _ (by_type k (to_new k x) (new.live_is k ∙ e)))
  kept _ (by_work _ here) =
      arc_follows s t' linked_work n l f m
      (subst (λ y. Follows s t' linked_work (is_same n [] y [])) (new.live_is n) (stated _ (by_merge n (to_new n h)))) new_arc
  kept _ (by_work _ (there x)) = stated _ (by_work _ (there x))

  l_arc : Closure s g (same (w l ++ f ∷ []) (w m ++ []))
  l_arc =
      let claim : Closure s g (same (w n ++ f ∷ []) (w m ++ [])) = old.sound.stated_in _ (by_work _ here) in
      same_trans _ _ _ (same_sym _ _ (at_live s g w n l f (old.sound.stated_in _ (by_merge n h)) (same_exists _ _ claim))) claim

  said : (d : NodeClaim) → Stated t' linked_work d → Closure s g (read w d)
  said _ (by_node k x) = old.sound.stated_in _ (by_node k (to_old k x))
  said _ (by_arc k x j z e is) = go (which k x j (to_old k z) is)
    where
      go : ((k ≡ l) × (x ≡ f) × (j ≡ m)) ⊎ (t.arc k x ≡ Some j) → Closure s g (same (w k ++ x ∷ []) (w j ++ []))
      go (inr q) = old.sound.stated_in _ (by_arc k x j (to_old k z) (sym (new.live_is k) ∙ e) q)
      go (inl q) =
          subst (λ y. Closure s g (same (w y ++ x ∷ []) (w j ++ []))) (sym q.0)
          (subst (λ y. Closure s g (same (w l ++ y ∷ []) (w j ++ []))) (sym q.1)
          (subst (λ y. Closure s g (same (w l ++ f ∷ []) (w y ++ []))) (sym q.2) l_arc))
  said _ (by_merge k x) =
      subst (λ y. Closure s g (same (w k ++ []) (w y ++ []))) (sym (new.live_is k)) (old.sound.stated_in _ (by_merge k (to_old k x)))
  said _ (by_type k x e) =
      subst (λ y. Closure s g (below (w k ++ []) y)) (sym (new.type_is k (to_old k x)))
      (old.sound.stated_in _ (by_type k (to_old k x) (sym (new.live_is k) ∙ e)))
  said _ (by_work _ here) =
      subst (λ y. Closure s g (below y (s.introducer f))) (sym (append-nil (w l))) (introduced _ f (same_exists _ _ l_arc))
  said _ (by_work d (there x)) = old.sound.stated_in _ (by_work d (there x))

  pub Closes-links : Closes s g t' linked_work w
  Closes-links = record {
    table = linked_table;
    filled = to_new 0 old.filled;
    in_table = ranges;
    sound = record { root = old.sound.root; stated_in = said };
    complete = complete_after s g t t' _ linked_work old.complete kept
        (λ k x j z e is. introduces k x j (to_old k z) (sym (new.live_is k) ∙ e) (which k x j (to_old k z) is))
        (λ k y c x e b z. Follows-grows s t t' _ linked_work kept _
        (old.complete.constrains k y c (to_old k x) (sym (new.live_is k) ∙ e)
        (subst (λ a. s.is_below a y ≡ true) (new.type_is k (to_old k x)) b) z));
  }
    where
      wider : (d : NodeClaim) → InTable t.size d → InTable t'.size d
      wider (is_there k p) x = to_new k x
      wider (is_same k p j q) x = (to_new k x.0, to_new j x.1)
      wider (is_under k p y) x = to_new k x

      ranges : (d : NodeClaim) → Has d linked_work → InTable t'.size d
      ranges _ here = to_new l l_in
      ranges d (there x) = wider d (old.in_table d (there x))

      introduces : (k x j : ℕ) → k < t.size → t.live k ≡ k → ((k ≡ l) × (x ≡ f) × (j ≡ m)) ⊎ (t.arc k x ≡ Some j) →
          Follows s t' linked_work (is_under k [] (s.introducer x))
      introduces k x j z e (inr q) = Follows-grows s t t' _ linked_work kept _ (old.complete.introduces k x j z e q)
      introduces k x j z e (inl q) =
          subst (λ y. Follows s t' linked_work (is_under y [] (s.introducer x))) (sym q.0)
          (subst (λ y. Follows s t' linked_work (is_under l [] (s.introducer y))) (sym q.1) (stated _ (by_work _ here)))

-- two types at a node with no meet: the closure is inconsistent
pub clash : (s : System) (g : Claim → Type 0) (t : Table) (rest : List NodeClaim) (w : ℕ → Path) (n u : ℕ) → n < t.size →
    Closes s g t (is_under n [] u ∷ rest) w → s.meet (t.type_of (t.live n)) u ≡ None → IsConsistent s g → ⊥
clash s g t rest w n u h old none ok =
    let n_l = ends_bare s g (w n) (w (t.live n)) (old.sound.stated_in _ (by_merge n h)) in
    let l_type =
    subst (λ y. Closure s g (below y (t.type_of (t.live n)))) (append-nil (w (t.live n)))
    (old.sound.stated_in _ (by_type (t.live n) (old.table.live_in n h) (old.table.live_twice n))) in
    let n_type = subst (λ y. Closure s g (below y u)) (append-nil (w n)) (old.sound.stated_in _ (by_work _ here)) in
    let meet = ok.typed _ _ _ l_type (same_type _ _ _ n_l n_type) in
    let e : None ≡ Some meet.0 = sym none ∙ meet.1 in
    cc

-- the first table stands for the given claims
pub Closes-starts : (s : System) (g : Claim → Type 0) (t : Table) → Starts s t → Closure s g (exists_at []) →
    IsBare s → (work : List NodeClaim) →
    ((c : Claim) → g c → Has (from 0 c) work) →
    ((c : NodeClaim) → Has c work → (d : Claim) × g d × (c ≡ from 0 d)) → Closes s g t work (λ _. [])
Closes-starts s g t st root none work into only = record {
  table = record {
    live_in = λ n h. subst (λ x. x < t.size) (sym (st.live_is n)) h;
    live_twice = λ n. ap t.live (st.live_is n);
    arc_in = λ n f m h e. absurd (no_arc n f m h e);
  };
  filled = omega (arith, st.size_is);
  in_table = λ c h. let d = only c h in subst (InTable t.size) (sym d.2) (at_root d.0);
  sound = record { root = refl; stated_in = said };
  complete = record {
    starts = λ c h. stated _ (by_work _ (into c h));
    introduces = λ n f m h l e. absurd (no_arc n f m h e);
    constrains = λ n u c h l b x. absurd (none u c (subst (λ y. s.is_below y u ≡ true) (type_top n h) b) x);
  };
}
  where
    zero_is : (n : ℕ) → n < t.size → 0 ≡ n
    zero_is n h = omega (arith, st.size_is)

    no_arc : (n f m : ℕ) → n < t.size → t.arc n f ≡ Some m → ⊥
    no_arc n f m h e =
        let a : None ≡ Some m = sym (st.arc_is f) ∙ ap (λ x. t.arc x f) (zero_is n h) ∙ e in cc

    type_top : (n : ℕ) → n < t.size → t.type_of n ≡ s.top
    type_top n h = ap t.type_of (sym (zero_is n h)) ∙ st.type_is

    at_root : (d : Claim) → InTable t.size (from 0 d)
    at_root (exists_at p) = omega (arith, st.size_is)
    at_root (same p q) = (omega (arith, st.size_is), omega (arith, st.size_is))
    at_root (below p u) = omega (arith, st.size_is)

    root_read : (d : Claim) → d ≡ read (λ _. []) (from 0 d)
    root_read (exists_at p) = refl
    root_read (same p q) = refl
    root_read (below p u) = refl

    said : (c : NodeClaim) → Stated t work c → Closure s g (read (λ _. []) c)
    said _ (by_node n h) = root
    said _ (by_arc n f m h l e) = absurd (no_arc n f m h e)
    said _ (by_merge n h) = same_refl _ root
    said _ (by_type n h l) = subst (λ x. Closure s g (below [] x)) (sym (type_top n h)) (topped _ root)
    said _ (by_work c h) =
        let d = only c h in
        subst (λ x. Closure s g (read (λ _. []) x)) (sym d.2) (subst (λ x. Closure s g x) (root_read d.0) (given_claim _ d.1))
