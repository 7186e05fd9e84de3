-- The verdict of closed nodes.
use Rattle.std.proofs.Common.{ℕ, ◌≡◌, ◌<◌, ◌≤◌, ◌+◌, ◌⊎◌, inl, inr, Option, Some, None, List, [], ◌∷◌, ◌++◌, length, refl, sym, ◌∙◌, ap, subst, arith, length-append, append_assoc, append-nil}
use Rattle.std.proofs.lemmas.Bool.{cases_lt}
use Rattle.type_hierarchy.specs.Laws.{HasTypeLaws}
use Rattle.fs_model.specs.Claims.{Path, same, below, Has}
use Rattle.fs_model.specs.Sources.{Told}
use Rattle.fs_graph.specs.GraphMap.{arc_to}
use Rattle.fs_closing.specs.Rules.{system_of}
use Rattle.forced_types.specs.declared.given.Given.{Given}
use Rattle.forced_types.specs.declared.nodes.Nodes.{Nodes}
use Rattle.forced_types.specs.declared.closed_types.Apart.{Apart}
use Rattle.forced_types.specs.declared.search.Aim.TheVariants.{Clash as ClashAim, Long as LongAim}
use Rattle.forced_types.specs.Forced.{same_refl, same_exists, same_sym, same_trans, same_extend, same_type}
use Rattle.forced_types.specs.Verdicts.{Clashes, IsTooLong, IsFirstClash, IsFirstLong}
use Rattle.forced_types.specs.Inner.Sound.{Forces, AreSound, Covers, most_of, size_of, entry_in, path_in, source_in}
use Rattle.forced_types.specs.Inner.Closed.{walk_in, IsFlat, IsClosed}
use Rattle.forced_types.specs.Inner.Search.{IsLeastGoal, AreMarked, mark_at}
use Rattle.forced_types.specs.Inner.Apart.{IsLeastApart}
use Rattle.forced_types.proofs.SoundLemmas.{entry_count}
use Rattle.forced_types.proofs.StepLemmas.{arc_has}
use Rattle.forced_types.proofs.ClosedLemmas.{walk-up, walk-ends, says}
use Rattle.forced_types.proofs.SearchLemmas.{near_at}

-- a walk's path is forced equal to that of its end
pub walk_sound : (g : Given) (t : Nodes) → AreSound g t → IsFlat t → (p q : Path) (n m : ℕ) → n < size_of t → Forces g (same q (path_in t n)) → length (q ++ p) ≤ most_of g →
    walk_in t n p ≡ Some m → Forces g (same (q ++ p) (path_in t m))
walk_sound g t sound flat [] q n m h f l e =
    let up = (sound.entries.each n (omega (arith, entry_count t, h))).up_same in
    let same_node : (entry_in t n).up ≡ m = cc in
    subst (λ x. Forces g (same x (path_in t m))) (sym (append-nil q)) (subst (λ x. Forces g (same q (path_in t x))) same_node (same_trans _ _ _ f up))
walk_sound g t sound flat (x ∷ p) q n m h f l e = go (arc_to (entry_in t (entry_in t n).up).arcs x) refl e (λ j. walk_sound g t sound flat p (q ++ x ∷ []) j m)
  where
    go : (o : Option ℕ) → arc_to (entry_in t (entry_in t n).up).arcs x ≡ o → elim o as (λ _. Option ℕ) [ None ↦ None | Some j ↦ walk_in t j p ] ≡ Some m →
        ((j : ℕ) → j < size_of t → Forces g (same (q ++ x ∷ []) (path_in t j)) → length ((q ++ x ∷ []) ++ p) ≤ most_of g → walk_in t j p ≡ Some m →
        Forces g (same ((q ++ x ∷ []) ++ p) (path_in t m))) → Forces g (same (q ++ x ∷ p) (path_in t m))
    go None _ e' _ = absurd cc
    go (Some j) is e' rest =
        let up_in = flat.up_in n h in
        let at = sound.entries.each n (omega (arith, entry_count t, h)) in
        let live = sound.entries.each (entry_in t n).up (omega (arith, entry_count t, up_in)) in
        let a = arc_has (entry_in t (entry_in t n).up).arcs x j is in
        let arc : Forces g (same (path_in t (entry_in t n).up ++ x ∷ []) (path_in t j)) =
        subst (λ y. Forces g (same (path_in t (entry_in t n).up ++ y ∷ []) (path_in t j))) a.2
        (subst (λ y. Forces g (same (path_in t (entry_in t n).up ++ a.0.feat.0 ∷ []) (path_in t y))) a.3 (live.arc_forced a.0 a.1)) in
        let here = same_trans _ _ _ f at.up_same in
        let regrouped : (q ++ x ∷ []) ++ p ≡ q ++ x ∷ p = append_assoc q (x ∷ []) p in
        let short : length (q ++ x ∷ []) ≤ most_of g = omega (arith, l, ap length regrouped, length-append (q ++ x ∷ []) p) in
        let on = same_extend (path_in t (entry_in t n).up) q (x ∷ []) (same_sym _ _ here) (same_exists _ _ arc) short in
        subst (λ y. Forces g (same y (path_in t m))) regrouped
        (rest j (flat.arc_in _ x j up_in is) (same_trans _ _ _ (same_sym _ _ on) arc) (omega (arith, l, ap length regrouped)) e')

module _ (g : Given) (t : Nodes) (sound : AreSound g t) (closed : IsClosed g t) (laws : HasTypeLaws g.system.now.types) where
  reached : (p : Path) (n : ℕ) → length p ≤ most_of g → walk_in t 0 p ≡ Some n → Forces g (same p (path_in t n))
  reached p n l e =
      let root = sound.entries.each 0 sound.entries.filled in
      let begins : Forces g (same [] (path_in t 0)) = subst (λ x. Forces g (same x (path_in t 0))) sound.entries.root (same_refl _ root.there) in
      walk_sound g t sound closed.flat p [] 0 n closed.filled begins l e

  typed_there : (p : Path) (n u : ℕ) → length p ≤ most_of g → walk_in t 0 p ≡ Some n → Has u (entry_in t n).types → Forces g (below p u)
  typed_there p n u l e has =
      let ends = walk-ends t closed.flat 0 n p closed.filled e in
      same_type _ _ u (same_sym _ _ (reached p n l e)) ((sound.entries.each n (omega (arith, entry_count t, ends.0))).type_forced u has)

  -- two types that clash at a path are listed at its end
  listed : (q : Path) (v w : ℕ) → Clashes (system_of g.system.now) (Told (source_in g)) q v w →
      (length q ≤ most_of g) × (m : ℕ) × (walk_in t 0 q ≡ Some m) × Has v (entry_in t m).types × Has w (entry_in t m).types
  listed q v w c =
      let a = says g t closed laws _ c.first in
      let b = says g t closed laws _ c.second in
      let one : b.1.0 ≡ a.1.0 = same_end b.1.0 a.1.0 (walk_in t 0 q) b.1.1 a.1.1 in
      let ends = walk-ends t closed.flat 0 a.1.0 q closed.filled a.1.1 in
      let both = (closed.nodes a.1.0 ends.0 ends.1).types.apart v w a.1.2 (subst (λ k. Covers g.system.now.types (entry_in t k).types w) one b.1.2) c.apart in
      (a.0, a.1.0, a.1.1, both.0, both.1)
    where
      same_end : (j k : ℕ) (o : Option ℕ) → o ≡ Some j → o ≡ Some k → j ≡ k
      same_end j k o x y = cc

  pub first_clash : (p : Path) (a : Apart) (n : ℕ) → IsLeastGoal g t ClashAim p → walk_in t 0 p ≡ Some n → IsLeastApart g.system.now.types (entry_in t n).types a →
      IsFirstClash (system_of g.system.now) (Told (source_in g)) p a.first a.second
  first_clash p a n goal e apart = record {
    clashes = record {
      first = typed_there p n a.first goal.short e apart.has;
      second = typed_there p n a.second goal.short e apart.second.has;
      apart = apart.second.apart;
    };
    least = λ q v w c.
        let x = listed q v w c in
        goal.least q x.1 x.0 x.2 (record { first = v; second = w; first_has = x.3; second_has = x.4; apart = c.apart });
    smaller = λ v w c.
        let x = listed p v w c in
        let one : x.1 ≡ n = same_end x.1 n (walk_in t 0 p) x.2 e in
        order v w (subst (λ k. Has v (entry_in t k).types) one x.3) (subst (λ k. Has w (entry_in t k).types) one x.4) c.apart (cases_lt a.first v) (cases_lt a.second w);
  }
    where
      same_end : (j k : ℕ) (o : Option ℕ) → o ≡ Some j → o ≡ Some k → j ≡ k
      same_end j k o x y = cc

      order : (v w : ℕ) → Has v (entry_in t n).types → Has w (entry_in t n).types → (system_of g.system.now).meet v w ≡ None →
          (a.first < v) ⊎ (v ≤ a.first) → (a.second < w) ⊎ (w ≤ a.second) → (a.first < v) ⊎ ((a.first ≡ v) × ((a.second ≡ w) ⊎ (a.second < w)))
      order v w h k none (inl x) _ = inl x
      order v w h k none (inr x) z =
          let low = apart.least v w h k none in
          let one : a.first ≡ v = omega arith in
          inr (one, last one z)
        where
          last : a.first ≡ v → (a.second < w) ⊎ (w ≤ a.second) → (a.second ≡ w) ⊎ (a.second < w)
          last one (inl y) = inr y
          last one (inr y) =
              let low = apart.second.least w k (subst (λ u. (system_of g.system.now).meet u w ≡ None) (sym one) none) in
              inl (omega arith)

  -- no two types clash where the root is far from a clash
  pub no_clash : (marks : List ℕ) → AreMarked g t ClashAim marks → (mark_at marks (entry_in t 0).up + 0 ≤ most_of g → ⊥) → (q : Path) (v w : ℕ) →
      Clashes (system_of g.system.now) (Told (source_in g)) q v w → ⊥
  no_clash marks marked far q v w c =
      let x = listed q v w c in
      far (near_at g t closed.flat ClashAim marks marked q 0 (entry_in t 0).up x.1 (length q) (closed.flat.up_in 0 closed.filled) (closed.flat.twice 0 closed.filled)
      (walk-up t closed.flat 0 q closed.filled ∙ x.2) (let e : 0 + length q ≡ length q = omega arith in e)
      (record { first = v; second = w; first_has = x.3; second_has = x.4; apart = c.apart }) x.0)

  pub no_long : (marks : List ℕ) → AreMarked g t LongAim marks → (mark_at marks (entry_in t 0).up ≤ 0 → ⊥) → (q : Path) →
      IsTooLong (system_of g.system.now) (Told (source_in g)) q → ⊥
  no_long marks marked far q c =
      let x = says g t closed laws _ c.forced in
      far (near_at g t closed.flat LongAim marks marked q 0 (entry_in t 0).up x.1.0 (length q) (closed.flat.up_in 0 closed.filled) (closed.flat.twice 0 closed.filled)
      (walk-up t closed.flat 0 q closed.filled ∙ x.1.1) (let e : 0 + length q ≡ length q = omega arith in e) c.long x.0)

  pub first_long : (p : Path) → IsLeastGoal g t LongAim p → IsFirstLong (system_of g.system.now) (Told (source_in g)) p
  first_long p goal = record {
    long = record { forced = same_exists _ _ (reached p goal.end goal.short goal.leads); long = goal.goal };
    least = λ q c. let x = says g t closed laws _ c.forced in goal.least q x.1.0 x.0 x.1.1 c.long;
  }
