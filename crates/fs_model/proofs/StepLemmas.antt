-- Each step keeps what a table and its work stand for.
use Rattle.std.proofs.Common.{ℕ, ◌≡◌, ◌≢◌, ◌≤◌, ◌<◌, ◌+◌, ◌⊎◌, inl, inr, true, Some, None, List, [], ◌∷◌, ◌++◌, sym, ◌∙◌, ap, subst, append_assoc, append-nil, arith}
use Rattle.std.proofs.lemmas.Bool.{cases_lt}
use Rattle.fs_model.specs.Claims.{Path, Claim, exists_at, same, below, System, IsBare, Has, here, there}
use Rattle.fs_model.specs.Closure.{Closure, same_exists, below_exists, prefix, same_refl, same_sym, same_trans, same_extend, same_type, introduced, topped}
use Rattle.fs_model.specs.Table.{Table, IsTable, NodeClaim, is_there, is_same, is_under, from, Stated, by_node, by_arc, by_merge, by_type, by_work, Follows, stated, there_left, there_under, there_before, same_itself, same_back, same_on, same_further, under_same, under_both, under_higher, under_top, IsComplete, read}
use Rattle.fs_model.specs.Steps.{InTable, before, head, Closes, Grows}

-- what follows from claims that follow
pub Follows-grows : (s : System) (t t' : Table) (work work' : List NodeClaim) →
    ((c : NodeClaim) → Stated t work c → Follows s t' work' c) → (c : NodeClaim) → Follows s t work c → Follows s t' work' c
Follows-grows s t t' k k' h _ (stated c a) = h c a
Follows-grows s t t' k k' h _ (there_left n m p q a) = there_left n m p q (Follows-grows s t t' k k' h _ a)
Follows-grows s t t' k k' h _ (there_under n u p a) = there_under n u p (Follows-grows s t t' k k' h _ a)
Follows-grows s t t' k k' h _ (there_before n p q a) = there_before n p q (Follows-grows s t t' k k' h _ a)
Follows-grows s t t' k k' h _ (same_itself n p a) = same_itself n p (Follows-grows s t t' k k' h _ a)
Follows-grows s t t' k k' h _ (same_back n m p q a) = same_back n m p q (Follows-grows s t t' k k' h _ a)
Follows-grows s t t' k k' h _ (same_on n m l p q r a b) =
    same_on n m l p q r (Follows-grows s t t' k k' h _ a) (Follows-grows s t t' k k' h _ b)
Follows-grows s t t' k k' h _ (same_further n m p q r a b) =
    same_further n m p q r (Follows-grows s t t' k k' h _ a) (Follows-grows s t t' k k' h _ b)
Follows-grows s t t' k k' h _ (under_same n m u p q a b) =
    under_same n m u p q (Follows-grows s t t' k k' h _ a) (Follows-grows s t t' k k' h _ b)
Follows-grows s t t' k k' h _ (under_both n u v m p a b e) =
    under_both n u v m p (Follows-grows s t t' k k' h _ a) (Follows-grows s t t' k k' h _ b) e
Follows-grows s t t' k k' h _ (under_higher n u v p a e) = under_higher n u v p (Follows-grows s t t' k k' h _ a) e
Follows-grows s t t' k k' h _ (under_top n p a) = under_top n p (Follows-grows s t t' k k' h _ a)

-- completeness, from the claims that a step leaves
pub complete_after : (s : System) (g : Claim → Type 0) (t t' : Table) (work work' : List NodeClaim) → IsComplete s g t work →
    ((c : NodeClaim) → Stated t work c → Follows s t' work' c) →
    ((n f m : ℕ) → n < t'.size → t'.live n ≡ n → t'.arc n f ≡ Some m → Follows s t' work' (is_under n [] (s.introducer f))) →
    ((n u : ℕ) (c : Claim) → n < t'.size → t'.live n ≡ n → s.is_below (t'.type_of n) u ≡ true → Has c (s.facts_of u) →
    Follows s t' work' (from n c)) →
    IsComplete s g t' work'
complete_after s g t t' work work' old h i k = record {
  starts = λ c x. Follows-grows s t t' work work' h _ (old.starts c x);
  introduces = i;
  constrains = k;
}

-- an arc, and what is said of the node that it leads to
pub past : (s : System) (t : Table) (work : List NodeClaim) (n f m : ℕ) (p : Path) → Follows s t work (is_same n (f ∷ []) m []) →
    Follows s t work (is_there m p) → Follows s t work (is_same n (f ∷ p) m p)
past s t work n f m p a b = same_back m n p (f ∷ p) (same_further m n [] (f ∷ []) p (same_back n m (f ∷ []) [] a) b)

pub before-follows : (s : System) (t : Table) (work : List NodeClaim) (n f : ℕ) (c : NodeClaim) →
    Follows s t work (is_same n (f ∷ []) (head c) []) → Follows s t work c → Follows s t work (before n f c)
before-follows s t work n f (is_there m p) a b = there_left _ _ _ _ (past s t work n f m p a b)
before-follows s t work n f (is_same m p k q) a b = same_on _ _ _ _ _ _ (past s t work n f m p a (there_left _ _ _ _ b)) b
before-follows s t work n f (is_under m p u) a b =
    under_same _ _ _ _ _ (same_back _ _ _ _ (past s t work n f m p a (there_under _ _ _ b))) b

-- the same, of the closure
pub read-past : (s : System) (g : Claim → Type 0) (a b : Path) (f : ℕ) (p : Path) → Closure s g (same (a ++ f ∷ []) b) →
    Closure s g (exists_at (a ++ f ∷ p)) → Closure s g (same (a ++ f ∷ p) (b ++ p))
read-past s g a b f p arc is =
    subst (λ x. Closure s g (same x (b ++ p))) (append_assoc a (f ∷ []) p)
    (same_extend _ _ p arc (subst (λ x. Closure s g (exists_at x)) (sym (append_assoc a (f ∷ []) p)) is))

-- what a claim before an arc says, after the arc
pub read-before : (s : System) (g : Claim → Type 0) (w : ℕ → Path) (n f : ℕ) (c : NodeClaim) →
    Closure s g (same (w n ++ f ∷ []) (w (head c))) → Closure s g (read w (before n f c)) → Closure s g (read w c)
read-before s g w n f (is_there m p) arc is = same_exists _ _ (same_sym _ _ (read-past s g (w n) (w m) f p arc is))
read-before s g w n f (is_same m p k q) arc is =
    same_trans _ _ _ (same_sym _ _ (read-past s g (w n) (w m) f p arc (same_exists _ _ is))) is
read-before s g w n f (is_under m p u) arc is = same_type _ _ u (read-past s g (w n) (w m) f p arc (below_exists _ _ is)) is

pub same_or_other : (m n : ℕ) → (m ≡ n) ⊎ (m ≢ n)
same_or_other m n = go (cases_lt m n) (cases_lt n m)
  where
    go : (m < n) ⊎ (n ≤ m) → (n < m) ⊎ (m ≤ n) → (m ≡ n) ⊎ (m ≢ n)
    go (inl a) _ = inr (λ e. omega arith)
    go (inr a) (inl b) = inr (λ e. omega arith)
    go (inr a) (inr b) = inl (omega arith)

-- an arc of the live node is an arc of the node
pub arc_follows : (s : System) (t : Table) (work : List NodeClaim) (n l f m : ℕ) → Follows s t work (is_same n [] l []) →
    Follows s t work (is_same l (f ∷ []) m []) → Follows s t work (is_same n (f ∷ []) m [])
arc_follows s t work n l f m merge arc =
    same_on _ _ _ _ _ _ (same_back _ _ _ _ (same_further l n [] [] (f ∷ []) (same_back _ _ _ _ merge) (there_left _ _ _ _ arc))) arc

-- other work that says the same
pub Closes-rework : (s : System) (g : Claim → Type 0) (t : Table) (work work' : List NodeClaim) (w : ℕ → Path) →
    Closes s g t work w → ((c : NodeClaim) → Has c work' → InTable t.size c) →
    ((c : NodeClaim) → Has c work → Follows s t work' c) →
    ((c : NodeClaim) → Has c work' → Closure s g (read w c)) → Closes s g t work' w
Closes-rework s g t work work' w old range keeps sound = record {
  table = old.table;
  filled = old.filled;
  in_table = range;
  sound = record { root = old.sound.root; stated_in = said };
  complete = complete_after s g t t work work' old.complete kept
      (λ n f m h l e. Follows-grows s t t work work' kept _ (old.complete.introduces n f m h l e))
      (λ n u c h l b x. Follows-grows s t t work work' kept _ (old.complete.constrains n u c h l b x));
}
  where
    kept : (c : NodeClaim) → Stated t work c → Follows s t work' c
    kept _ (by_node n h) = stated _ (by_node n h)
    kept _ (by_arc n f m h l e) = stated _ (by_arc n f m h l e)
    kept _ (by_merge n h) = stated _ (by_merge n h)
    kept _ (by_type n h l) = stated _ (by_type n h l)
    kept _ (by_work c h) = keeps c h

    said : (c : NodeClaim) → Stated t work' c → Closure s g (read w c)
    said _ (by_node n h) = old.sound.stated_in _ (by_node n h)
    said _ (by_arc n f m h l e) = old.sound.stated_in _ (by_arc n f m h l e)
    said _ (by_merge n h) = old.sound.stated_in _ (by_merge n h)
    said _ (by_type n h l) = old.sound.stated_in _ (by_type n h l)
    said _ (by_work c h) = sound c h

-- the equality of paths at an arc of the live node
pub arc_read : (s : System) (g : Claim → Type 0) (w : ℕ → Path) (n l f m : ℕ) → Closure s g (read w (is_same n [] l [])) →
    Closure s g (read w (is_same l (f ∷ []) m [])) → Closure s g (same (w n ++ f ∷ []) (w m))
arc_read s g w n l f m merge arc =
    let merge' : Closure s g (same (w n) (w l)) =
    subst (λ x. Closure s g (same (w n) x)) (append-nil (w l)) (subst (λ x. Closure s g (same x (w l ++ []))) (append-nil (w n)) merge) in
    let arc' : Closure s g (same (w l ++ f ∷ []) (w m)) = subst (λ x. Closure s g (same (w l ++ f ∷ []) x)) (append-nil (w m)) arc in
    same_trans _ _ _ (same_sym _ _ (same_extend (w l) (w n) (f ∷ []) (same_sym _ _ merge') (same_exists _ _ arc'))) arc'

-- a claim goes one arc on
pub Closes-advance : (s : System) (g : Claim → Type 0) (t : Table) (c : NodeClaim) (rest : List NodeClaim) (w : ℕ → Path) (n f : ℕ) →
    n < t.size → t.arc (t.live n) f ≡ Some (head c) → InTable t.size c →
    Closes s g t (before n f c ∷ rest) w → Closes s g t (c ∷ rest) w
Closes-advance s g t c rest w n f h e range old = Closes-rework s g t _ (c ∷ rest) w old ranges keeps says
  where
    merge : {k : List NodeClaim} → Stated t k (is_same n [] (t.live n) [])
    merge = by_merge n h

    arc : {k : List NodeClaim} → Stated t k (is_same (t.live n) (f ∷ []) (head c) [])
    arc = by_arc (t.live n) f (head c) (old.table.live_in n h) (old.table.live_twice n) e

    ranges : (d : NodeClaim) → Has d (c ∷ rest) → InTable t.size d
    ranges _ here = range
    ranges d (there x) = old.in_table d (there x)

    keeps : (d : NodeClaim) → Has d (before n f c ∷ rest) → Follows s t (c ∷ rest) d
    keeps _ here = before-follows s t _ n f c (arc_follows s t _ n _ f _ (stated _ merge) (stated _ arc)) (stated _ (by_work _ here))
    keeps d (there x) = stated _ (by_work _ (there x))

    says : (d : NodeClaim) → Has d (c ∷ rest) → Closure s g (read w d)
    says _ here = read-before s g w n f c (arc_read s g w n _ f _ (old.sound.stated_in _ merge) (old.sound.stated_in _ arc))
        (old.sound.stated_in _ (by_work _ here))
    says d (there x) = old.sound.stated_in _ (by_work _ (there x))

-- a claim that follows from the rest goes
pub Closes-drop : (s : System) (g : Claim → Type 0) (t : Table) (c : NodeClaim) (rest : List NodeClaim) (w : ℕ → Path) →
    Follows s t rest c → Closes s g t (c ∷ rest) w → Closes s g t rest w
Closes-drop s g t c rest w f old = Closes-rework s g t _ rest w old (λ d x. old.in_table d (there x)) keeps
    (λ d x. old.sound.stated_in _ (by_work _ (there x)))
  where
    keeps : (d : NodeClaim) → Has d (c ∷ rest) → Follows s t rest d
    keeps _ here = f
    keeps d (there x) = stated _ (by_work _ x)

-- two readings that agree on the nodes of a table
pub read-agree : (w w' : ℕ → Path) (size : ℕ) → ((k : ℕ) → k < size → w' k ≡ w k) → (c : NodeClaim) → InTable size c →
    read w' c ≡ read w c
read-agree w w' size a (is_there n p) h = ap (λ x. exists_at (x ++ p)) (a n h)
read-agree w w' size a (is_same n p m q) h =
    ap (λ x. same (x ++ p) (w' m ++ q)) (a n h.0) ∙ ap (λ x. same (w n ++ p) (x ++ q)) (a m h.1)
read-agree w w' size a (is_under n p u) h = ap (λ x. below (x ++ p) u) (a n h)

-- the feature at which a claim goes on is there
pub first_feature : (s : System) (g : Claim → Type 0) (w : ℕ → Path) (n f : ℕ) (c : NodeClaim) → Closure s g (read w (before n f c)) →
    Closure s g (exists_at (w n ++ f ∷ []))
first_feature s g w n f c a = go c a
  where
    cut : (p : Path) → Closure s g (exists_at (w n ++ f ∷ p)) → Closure s g (exists_at (w n ++ f ∷ []))
    cut p a = prefix (w n ++ f ∷ []) p (subst (λ x. Closure s g (exists_at x)) (sym (append_assoc (w n) (f ∷ []) p)) a)

    go : (c : NodeClaim) → Closure s g (read w (before n f c)) → Closure s g (exists_at (w n ++ f ∷ []))
    go (is_there m p) a = cut p a
    go (is_same m p k q) a = cut p (same_exists _ _ a)
    go (is_under m p u) a = cut p (below_exists _ _ a)

pub at_live : (s : System) (g : Claim → Type 0) (w : ℕ → Path) (n l f : ℕ) → Closure s g (read w (is_same n [] l [])) →
    Closure s g (exists_at (w n ++ f ∷ [])) → Closure s g (same (w n ++ f ∷ []) (w l ++ f ∷ []))
at_live s g w n l f merge a =
    let merge' : Closure s g (same (w n) (w l)) =
    subst (λ x. Closure s g (same (w n) x)) (append-nil (w l)) (subst (λ x. Closure s g (same x (w l ++ []))) (append-nil (w n)) merge) in
    same_extend (w n) (w l) (f ∷ []) merge' a

old_or_new : (k n : ℕ) → k < n + 1 → (k < n) ⊎ (n ≡ k)
old_or_new k n h = go (cases_lt k n)
  where
    go : (k < n) ⊎ (n ≤ k) → (k < n) ⊎ (n ≡ k)
    go (inl a) = inl a
    go (inr a) = inr (omega arith)

module _ (s : System) (g : Claim → Type 0) (t t' : Table) (c : NodeClaim) (rest : List NodeClaim) (w w' : ℕ → Path) (n f : ℕ)
    (h : n < t.size) (new : Grows s.top t t' (t.live n) f) (empty : t.arc (t.live n) f ≡ None) (leads : head c ≡ t.size)
    (range : InTable (t.size + 1) c) (agrees : (k : ℕ) → k < t.size → w' k ≡ w k) (stands : w' t.size ≡ w (t.live n) ++ f ∷ [])
    (no_facts : IsBare s)
    (old : Closes s g t (before n f c ∷ rest) w) where
  abbrev work_after : List NodeClaim
  work_after = c ∷ is_under (t.live n) [] (s.introducer f) ∷ rest

  grown_table : IsTable t'
  grown_table = record {
    live_in = λ k a. live_in k (old_or_new k t.size (subst (λ x. k < x) new.size_is a));
    live_twice = λ k. live_twice k (cases_lt k t.size);
    arc_in = λ k x m a e. arc_in k x m (old_or_new k t.size (subst (λ y. k < y) new.size_is a)) e (same_or_other k (t.live n)) (same_or_other x f);
  }
    where
      live_in : (k : ℕ) → (k < t.size) ⊎ (t.size ≡ k) → t'.live k < t'.size
      live_in k (inl a) = omega (arith, old.table.live_in k a, new.live_old k a, new.size_is)
      live_in k (inr e) = omega (arith, new.live_new k (omega arith), new.size_is)

      live_twice : (k : ℕ) → (k < t.size) ⊎ (t.size ≤ k) → t'.live (t'.live k) ≡ t'.live k
      live_twice k (inl a) =
          ap t'.live (new.live_old k a) ∙ new.live_old (t.live k) (old.table.live_in k a) ∙ old.table.live_twice k ∙ sym (new.live_old k a)
      live_twice k (inr a) = ap t'.live (new.live_new k a)

      arc_in : (k x m : ℕ) → (k < t.size) ⊎ (t.size ≡ k) → t'.arc k x ≡ Some m → (k ≡ t.live n) ⊎ (k ≢ t.live n) → (x ≡ f) ⊎ (x ≢ f) → m < t'.size
      arc_in k x m (inr e) a _ _ =
          absurd (let i : None ≡ Some m = sym (new.arc_new x) ∙ ap (λ y. t'.arc y x) e ∙ a in cc)
      arc_in k x m (inl b) a (inr differs) _ =
          let i : m < t.size = old.table.arc_in k x m b (sym (new.arc_old k x b (inl differs)) ∙ a) in omega (arith, new.size_is)
      arc_in k x m (inl b) a (inl _) (inr differs) =
          let i : m < t.size = old.table.arc_in k x m b (sym (new.arc_old k x b (inr differs)) ∙ a) in omega (arith, new.size_is)
      arc_in k x m (inl b) a (inl e) (inl d) =
          let i : Some m ≡ Some t.size = sym a ∙ ap (λ y. t'.arc y x) e ∙ ap (λ y. t'.arc (t.live n) y) d ∙ new.arc_here in
          let j : m ≡ t.size = cc in
          omega (arith, new.size_is)

  kept : (d : NodeClaim) → Stated t (before n f c ∷ rest) d → Follows s t' work_after d
  kept _ (by_node k a) = stated _ (by_node k (omega (arith, new.size_is)))
  kept _ (by_arc k x m a l e) = go (same_or_other k (t.live n)) (same_or_other x f)
    where
      still : (k ≢ t.live n) ⊎ (x ≢ f) → Follows s t' work_after (is_same k (x ∷ []) m [])
      still d = stated _ (by_arc k x m (omega (arith, new.size_is)) (new.live_old k a ∙ l) (new.arc_old k x a d ∙ e))

      go : (k ≡ t.live n) ⊎ (k ≢ t.live n) → (x ≡ f) ⊎ (x ≢ f) → Follows s t' work_after (is_same k (x ∷ []) m [])
      go (inr differs) _ = still (inl differs)
      go (inl _) (inr differs) = still (inr differs)
      go (inl i) (inl j) =
          absurd (let b : None ≡ Some m = sym empty ∙ ap (λ y. t.arc y f) (sym i) ∙ ap (λ y. t.arc k y) (sym j) ∙ e in cc)
  kept _ (by_merge k a) =
      subst (λ y. Follows s t' work_after (is_same k [] y [])) (new.live_old k a) (stated _ (by_merge k (omega (arith, new.size_is))))
  kept _ (by_type k a l) =
      subst (λ y. Follows s t' work_after (is_under k [] y)) (new.type_old k a)
      (stated _ (by_type k (omega (arith, new.size_is)) (new.live_old k a ∙ l)))
  kept _ (by_work _ here) =
      before-follows s t' work_after n f c
      (arc_follows s t' work_after n (t.live n) f (head c)
      (subst (λ y. Follows s t' work_after (is_same n [] y [])) (new.live_old n h) (stated _ (by_merge n (omega (arith, new.size_is)))))
      (subst (λ y. Follows s t' work_after (is_same (t.live n) (f ∷ []) y [])) (sym leads)
      (stated _ (by_arc (t.live n) f t.size live_here (new.live_old (t.live n) (old.table.live_in n h) ∙ old.table.live_twice n) new.arc_here))))
      (stated _ (by_work _ here))
    where
      live_here : t.live n < t'.size
      live_here = omega (arith, old.table.live_in n h, new.size_is)
  kept _ (by_work d (there x)) = stated _ (by_work _ (there (there x)))

  feature : Closure s g (exists_at (w (t.live n) ++ f ∷ []))
  feature =
      let a = first_feature s g w n f c (old.sound.stated_in _ (by_work _ here)) in
      same_exists _ _ (same_sym _ _ (at_live s g w n (t.live n) f (old.sound.stated_in _ (by_merge n h)) a))

  pub new_there : Closure s g (exists_at (w' t.size))
  new_there = subst (λ x. Closure s g (exists_at x)) (sym stands) feature

  old_said : (d : NodeClaim) → InTable t.size d → Stated t (before n f c ∷ rest) d → Closure s g (read w' d)
  old_said d i a = subst (λ x. Closure s g x) (sym (read-agree w w' t.size agrees d i)) (old.sound.stated_in d a)

  said : (d : NodeClaim) → Stated t' work_after d → Closure s g (read w' d)
  said _ (by_node k a) = go (old_or_new k t.size (subst (λ x. k < x) new.size_is a))
    where
      go : (k < t.size) ⊎ (t.size ≡ k) → Closure s g (exists_at (w' k ++ []))
      go (inl b) = old_said (is_there k []) b (by_node k b)
      go (inr e) = subst (λ y. Closure s g (exists_at (w' y ++ []))) e
          (subst (λ x. Closure s g (exists_at x)) (sym (append-nil (w' t.size))) new_there)
  said _ (by_arc k x m a l e) = go (old_or_new k t.size (subst (λ y. k < y) new.size_is a)) (same_or_other k (t.live n)) (same_or_other x f)
    where
      still : k < t.size → (k ≢ t.live n) ⊎ (x ≢ f) → Closure s g (read w' (is_same k (x ∷ []) m []))
      still b d =
          let e' : t.arc k x ≡ Some m = sym (new.arc_old k x b d) ∙ e in
          old_said (is_same k (x ∷ []) m []) (b, old.table.arc_in k x m b e') (by_arc k x m b (sym (new.live_old k b) ∙ l) e')

      go : (k < t.size) ⊎ (t.size ≡ k) → (k ≡ t.live n) ⊎ (k ≢ t.live n) → (x ≡ f) ⊎ (x ≢ f) → Closure s g (read w' (is_same k (x ∷ []) m []))
      go (inr d) _ _ = absurd (let i : None ≡ Some m = sym (new.arc_new x) ∙ ap (λ y. t'.arc y x) d ∙ e in cc)
      go (inl b) (inr differs) _ = still b (inl differs)
      go (inl b) (inl _) (inr differs) = still b (inr differs)
      go (inl b) (inl i) (inl j) =
          let at_new : Some m ≡ Some t.size = sym e ∙ ap (λ y. t'.arc y x) i ∙ ap (λ y. t'.arc (t.live n) y) j ∙ new.arc_here in
          let is_new : t.size ≡ m = cc in
          let path : w' k ++ x ∷ [] ≡ w' t.size =
          ap (λ y. w' y ++ x ∷ []) i ∙ ap (λ y. w' (t.live n) ++ y ∷ []) j
          ∙ ap (λ y. y ++ f ∷ []) (agrees (t.live n) (old.table.live_in n h)) ∙ sym stands in
          subst (λ y. Closure s g (same (w' k ++ x ∷ []) (w' y ++ []))) is_new
          (subst (λ y. Closure s g (same y (w' t.size ++ []))) (sym path)
          (subst (λ y. Closure s g (same (w' t.size) y)) (sym (append-nil (w' t.size))) (same_refl _ new_there)))
  said _ (by_merge k a) = go (old_or_new k t.size (subst (λ x. k < x) new.size_is a))
    where
      go : (k < t.size) ⊎ (t.size ≡ k) → Closure s g (same (w' k ++ []) (w' (t'.live k) ++ []))
      go (inl b) =
          subst (λ y. Closure s g (same (w' k ++ []) (w' y ++ []))) (sym (new.live_old k b))
          (old_said (is_same k [] (t.live k) []) (b, old.table.live_in k b) (by_merge k b))
      go (inr e) = subst (λ y. Closure s g (same (w' k ++ []) (w' y ++ []))) (sym (new.live_new k (omega arith)))
          (subst (λ y. Closure s g (same (w' y ++ []) (w' y ++ []))) e
          (subst (λ y. Closure s g (same y y)) (sym (append-nil (w' t.size))) (same_refl _ new_there)))
  said _ (by_type k a l) = go (old_or_new k t.size (subst (λ x. k < x) new.size_is a))
    where
      go : (k < t.size) ⊎ (t.size ≡ k) → Closure s g (below (w' k ++ []) (t'.type_of k))
      go (inl b) =
          subst (λ y. Closure s g (below (w' k ++ []) y)) (sym (new.type_old k b))
          (old_said (is_under k [] (t.type_of k)) b (by_type k b (sym (new.live_old k b) ∙ l)))
      go (inr e) =
          subst (λ y. Closure s g (below (w' y ++ []) (t'.type_of y))) e
          (subst (λ y. Closure s g (below (w' t.size ++ []) y)) (sym new.type_new)
          (subst (λ y. Closure s g (below y s.top)) (sym (append-nil (w' t.size))) (topped _ new_there)))
  said _ (by_work _ here) =
      read-before s g w' n f c (subst (λ y. Closure s g (same (w' n ++ f ∷ []) (w' y))) (sym leads) arc)
      (old_said (before n f c) (old.in_table _ here) (by_work _ here))
    where
      arc : Closure s g (same (w' n ++ f ∷ []) (w' t.size))
      arc =
          subst (λ y. Closure s g (same (w' n ++ f ∷ []) y)) (sym stands)
          (subst (λ y. Closure s g (same (y ++ f ∷ []) (w (t.live n) ++ f ∷ []))) (sym (agrees n h))
          (at_live s g w n (t.live n) f (old.sound.stated_in _ (by_merge n h))
          (first_feature s g w n f c (old.sound.stated_in _ (by_work _ here)))))
  said _ (by_work _ (there here)) =
      subst (λ y. Closure s g (below (y ++ []) (s.introducer f))) (sym (agrees (t.live n) (old.table.live_in n h)))
      (subst (λ y. Closure s g (below y (s.introducer f))) (sym (append-nil (w (t.live n)))) (introduced _ f feature))
  said _ (by_work d (there (there x))) = old_said d (old.in_table d (there x)) (by_work d (there x))

  pub Closes-grows : Closes s g t' work_after w'
  Closes-grows = record {
    table = grown_table;
    filled = omega (arith, new.size_is);
    in_table = ranges;
    sound = record { root = agrees 0 old.filled ∙ old.sound.root; stated_in = said };
    complete = complete_after s g t t' _ work_after old.complete kept introduces constrains;
  }
    where
      wider : (d : NodeClaim) → InTable t.size d → InTable t'.size d
      wider (is_there m p) a = omega (arith, new.size_is)
      wider (is_same m p k q) a = omega (arith, new.size_is)
      wider (is_under m p u) a = omega (arith, new.size_is)

      ranges : (d : NodeClaim) → Has d work_after → InTable t'.size d
      ranges _ here = subst (λ y. InTable y c) (sym new.size_is) range
      ranges _ (there here) = omega (arith, old.table.live_in n h, new.size_is)
      ranges d (there (there x)) = wider d (old.in_table d (there x))

      introduces : (k x m : ℕ) → k < t'.size → t'.live k ≡ k → t'.arc k x ≡ Some m → Follows s t' work_after (is_under k [] (s.introducer x))
      introduces k x m a l e = go (old_or_new k t.size (subst (λ y. k < y) new.size_is a)) (same_or_other k (t.live n)) (same_or_other x f)
        where
          still : k < t.size → (k ≢ t.live n) ⊎ (x ≢ f) → Follows s t' work_after (is_under k [] (s.introducer x))
          still b d = Follows-grows s t t' _ work_after kept _
              (old.complete.introduces k x m b (sym (new.live_old k b) ∙ l) (sym (new.arc_old k x b d) ∙ e))

          go : (k < t.size) ⊎ (t.size ≡ k) → (k ≡ t.live n) ⊎ (k ≢ t.live n) → (x ≡ f) ⊎ (x ≢ f) →
              Follows s t' work_after (is_under k [] (s.introducer x))
          go (inr d) _ _ = absurd (let i : None ≡ Some m = sym (new.arc_new x) ∙ ap (λ y. t'.arc y x) d ∙ e in cc)
          go (inl b) (inr differs) _ = still b (inl differs)
          go (inl b) (inl _) (inr differs) = still b (inr differs)
          go (inl b) (inl i) (inl j) =
              subst (λ y. Follows s t' work_after (is_under y [] (s.introducer x))) (sym i)
              (subst (λ y. Follows s t' work_after (is_under (t.live n) [] (s.introducer y))) (sym j) (stated _ (by_work _ (there here))))

      constrains : (k u : ℕ) (d : Claim) → k < t'.size → t'.live k ≡ k → s.is_below (t'.type_of k) u ≡ true → Has d (s.facts_of u) →
          Follows s t' work_after (from k d)
      constrains k u d a l b x = go (old_or_new k t.size (subst (λ y. k < y) new.size_is a))
        where
          go : (k < t.size) ⊎ (t.size ≡ k) → Follows s t' work_after (from k d)
          go (inl i) = Follows-grows s t t' _ work_after kept _
              (old.complete.constrains k u d i (sym (new.live_old k i) ∙ l) (subst (λ y. s.is_below y u ≡ true) (new.type_old k i) b) x)
          go (inr e) = absurd (no_facts u d (subst (λ y. s.is_below y u ≡ true) (ap t'.type_of (sym e) ∙ new.type_new) b) x)
