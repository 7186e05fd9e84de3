-- The least path that is looked for.
use Rattle.std.proofs.Common.{ℕ, ◌≡◌, ◌<◌, ◌≤◌, ◌+◌, ◌⊎◌, inl, inr, Option, Some, None, List, [], ◌∷◌, ◌++◌, length, refl, sym, ◌∙◌, ap, subst, arith, length-append, append_assoc, append-nil}
use Rattle.std.proofs.lemmas.Bool.{cases_lt}
use Rattle.fs_model.specs.Claims.{Path}
use Rattle.fs_model.specs.Numbering.{IsBefore}
use Rattle.fs_model.proofs.PathLemmas.{before_extension, before_branch}
use Rattle.fs_model.proofs.TableLemmas.{walk-step}
use Rattle.fs_graph.specs.GraphMap.{arc_to}
use Rattle.forced_types.specs.declared.given.Given.{Given}
use Rattle.forced_types.specs.declared.nodes.Nodes.{Nodes}
use Rattle.forced_types.specs.declared.search.Aim.{Aim}
use Rattle.forced_types.specs.declared.search.Aim.TheVariants.{Clash, Long}
use Rattle.forced_types.specs.Inner.Sound.{most_of, size_of, entry_in}
use Rattle.forced_types.specs.Inner.Closed.{table_in, walk_in, IsFlat}
use Rattle.forced_types.specs.Inner.Search.{IsClash, IsGoal, IsNear, AreMarked, IsLeastGoal, mark_at}
use Rattle.forced_types.proofs.ClosedLemmas.{walk-up, walk-on, walk-ends}

module _ (g : Given) (t : Nodes) (flat : IsFlat t) where
  -- the arc that a walk takes from a live node, and what is left of it
  pub first_arc : (n m f : ℕ) (s : Path) → n < size_of t → (entry_in t n).up ≡ n → walk_in t n (f ∷ s) ≡ Some m →
      (j : ℕ) × (arc_to (entry_in t n).arcs f ≡ Some j) × (j < size_of t) × (walk_in t (entry_in t j).up s ≡ Some m)
  first_arc n m f s h live e = go (arc_to (entry_in t n).arcs f) refl
    where
      moved : walk_in t n (f ∷ s) ≡ elim (arc_to (entry_in t n).arcs f) as (λ _. Option ℕ) [ None ↦ None | Some j ↦ walk_in t j s ]
      moved = ap (λ x. elim (arc_to (entry_in t x).arcs f) as (λ _. Option ℕ) [ None ↦ None | Some j ↦ walk_in t j s ]) live

      go : (o : Option ℕ) → arc_to (entry_in t n).arcs f ≡ o →
          (j : ℕ) × (arc_to (entry_in t n).arcs f ≡ Some j) × (j < size_of t) × (walk_in t (entry_in t j).up s ≡ Some m)
      go None is = absurd (let stops : None ≡ Some m = sym (ap (λ o. elim o as (λ _. Option ℕ) [ None ↦ None | Some j ↦ walk_in t j s ]) is) ∙ sym moved ∙ e in cc)
      go (Some j) is =
          let j_in = flat.arc_in n f j h is in
          let rest : walk_in t j s ≡ Some m = sym (ap (λ o. elim o as (λ _. Option ℕ) [ None ↦ None | Some i ↦ walk_in t i s ]) is) ∙ sym moved ∙ e in
          (j, is, j_in, walk-up t flat j s j_in ∙ rest)

  near_clash : (marks : List ℕ) → AreMarked g t Clash marks → (s : Path) (k n m : ℕ) → n < size_of t → (entry_in t n).up ≡ n → walk_in t n s ≡ Some m →
      IsClash g t m → k + length s ≤ most_of g → mark_at marks n + k ≤ most_of g
  near_clash marks marked [] k n m h live e clash l =
      let same_node : (entry_in t n).up ≡ m = cc in
      let is : m ≡ n = sym same_node ∙ live in
      let zero' = (marked n h).goal (subst (IsClash g t) is clash) in
      omega arith
  near_clash marks marked (f ∷ s) k n m h live e clash l =
      let a = first_arc n m f s h live e in
      let near = near_clash marks marked s (k + 1) (entry_in t a.0).up m (flat.up_in a.0 a.2) (flat.twice a.0 a.2) a.3 clash (omega arith) in
      let step = (marked n h).arcs f a.0 a.1 in
      omega arith

  near_long : (marks : List ℕ) → AreMarked g t Long marks → (s : Path) (k n m : ℕ) → n < size_of t → (entry_in t n).up ≡ n → walk_in t n s ≡ Some m →
      k + length s ≡ most_of g → mark_at marks n ≤ k
  near_long marks marked [] k n m h live e l = let last = (marked n h).last refl in omega arith
  near_long marks marked (f ∷ s) k n m h live e l =
      let a = first_arc n m f s h live e in
      let near = near_long marks marked s (k + 1) (entry_in t a.0).up m (flat.up_in a.0 a.2) (flat.twice a.0 a.2) a.3 (omega arith) in
      let step = (marked n h).arcs f a.0 a.1 in
      omega arith

  -- a node from which what is looked for is reached is near
  pub near_at : (aim : Aim) (marks : List ℕ) → AreMarked g t aim marks → (s : Path) (k n m size : ℕ) → n < size_of t → (entry_in t n).up ≡ n → walk_in t n s ≡ Some m →
      k + length s ≡ size → IsGoal g t aim m size → size ≤ most_of g → IsNear aim (most_of g) (mark_at marks n) k
  near_at Clash marks marked s k n m size h live e is goal l = near_clash marks marked s k n m h live e goal (omega arith)
  near_at Long marks marked s k n m size h live e is goal l = near_long marks marked s k n m h live e (is ∙ goal)

  -- a path is on the way to the least one: all others go on from it, or come after whatever goes on from it
  abbrev pub IsOnTheWay : Aim → Path → Type 0
  IsOnTheWay aim p =
      (q : Path) (m : ℕ) → length q ≤ most_of g → walk_in t 0 q ≡ Some m → IsGoal g t aim m (length q) →
      ((s : Path) × (q ≡ p ++ s)) ⊎ ((x : Path) → IsBefore (p ++ x) q)

  pub arrived : (aim : Aim) (p : Path) (n : ℕ) → IsOnTheWay aim p → length p ≤ most_of g → walk_in t 0 p ≡ Some n → IsGoal g t aim n (length p) → IsLeastGoal g t aim p
  arrived aim p n way short e goal = record {
    short = short;
    end = n;
    leads = e;
    goal = goal;
    least = λ q m l w h. which q (way q m l w h);
  }
    where
      extends : (q s : Path) → q ≡ p ++ s → (p ≡ q) ⊎ IsBefore p q
      extends q [] is = inl (sym (is ∙ append-nil p))
      extends q (f ∷ s) is = inr (subst (IsBefore p) (sym is) (before_extension p f s))

      which : (q : Path) → ((s : Path) × (q ≡ p ++ s)) ⊎ ((x : Path) → IsBefore (p ++ x) q) → (p ≡ q) ⊎ IsBefore p q
      which q (inl a) = extends q a.0 a.1
      which q (inr b) = inr (subst (λ x. IsBefore x q) (append-nil p) (b []))

  pub further_on : (aim : Aim) (marks : List ℕ) → AreMarked g t aim marks → 0 < size_of t → (p : Path) (n f to : ℕ) → IsOnTheWay aim p → walk_in t 0 p ≡ Some n →
      (IsGoal g t aim n (length p) → ⊥) →
      ((h j : ℕ) → arc_to (entry_in t n).arcs h ≡ Some j → IsNear aim (most_of g) (mark_at marks (entry_in t j).up) (length p + 1) → f ≤ h) → IsOnTheWay aim (p ++ f ∷ [])
  further_on aim marks marked filled p n f to way e never least q m l w goal = which (way q m l w goal)
    where
      split : (h : ℕ) (s : Path) → q ≡ p ++ h ∷ s → (f < h) ⊎ (h ≤ f) → f ≤ h →
          ((s : Path) × (q ≡ (p ++ f ∷ []) ++ s)) ⊎ ((x : Path) → IsBefore ((p ++ f ∷ []) ++ x) q)
      split h s is (inl less) _ =
          inr (λ x. subst (λ y. IsBefore y q) (sym (append_assoc p (f ∷ []) x)) (subst (IsBefore (p ++ f ∷ x)) (sym is) (before_branch p f h x s less)))
      split h s is (inr more) bound =
          let one : h ≡ f = omega arith in
          inl (s, is ∙ ap (λ y. p ++ y ∷ s) one ∙ sym (append_assoc p (f ∷ []) s))

      extends : (s : Path) → q ≡ p ++ s → ((s : Path) × (q ≡ (p ++ f ∷ []) ++ s)) ⊎ ((x : Path) → IsBefore ((p ++ f ∷ []) ++ x) q)
      extends [] is =
          let same' : q ≡ p = is ∙ append-nil p in
          let one : m ≡ n = ends m n (walk_in t 0 p) (subst (λ y. walk_in t 0 y ≡ Some m) same' w) e in
          absurd (never (subst (λ y. IsGoal g t aim y (length p)) one (subst (λ y. IsGoal g t aim m (length y)) same' goal)))
        where
          ends : (j k : ℕ) (o : Option ℕ) → o ≡ Some j → o ≡ Some k → j ≡ k
          ends j k o a b = cc
      extends (h ∷ s) is =
          let live = walk-ends t flat 0 n p filled e in
          let on : walk_in t n (h ∷ s) ≡ Some m = sym (walk-on t flat 0 n p (h ∷ s) filled e) ∙ ap (walk_in t 0) (sym is) ∙ w in
          let a = first_arc n m h s live.0 live.1 on in
          let size : length p + 1 + length s ≡ length q = omega (arith, ap length is, length-append p (h ∷ s)) in
          let near = near_at aim marks marked s (length p + 1) (entry_in t a.0).up m (length q) (flat.up_in a.0 a.2) (flat.twice a.0 a.2) a.3 size goal l in
          split h s is (cases_lt f h) (least h a.0 a.1 near)

      which : ((s : Path) × (q ≡ p ++ s)) ⊎ ((x : Path) → IsBefore (p ++ x) q) → ((s : Path) × (q ≡ (p ++ f ∷ []) ++ s)) ⊎ ((x : Path) → IsBefore ((p ++ f ∷ []) ++ x) q)
      which (inl a) = extends a.0 a.1
      which (inr b) = inr (λ x. subst (λ y. IsBefore y q) (sym (append_assoc p (f ∷ []) x)) (b (f ∷ x)))

  pub walk_more : (p : Path) (n f to : ℕ) → 0 < size_of t → walk_in t 0 p ≡ Some n → arc_to (entry_in t n).arcs f ≡ Some to → walk_in t 0 (p ++ f ∷ []) ≡ Some (entry_in t to).up
  walk_more p n f to filled e arc =
      let live = walk-ends t flat 0 n p filled e in
      let here : arc_to (entry_in t (entry_in t n).up).arcs f ≡ Some to = ap (λ x. arc_to (entry_in t x).arcs f) live.1 ∙ arc in
      walk-on t flat 0 n p (f ∷ []) filled e ∙ walk-step (table_in t) n to f [] here
