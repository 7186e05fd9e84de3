-- Closed nodes say all that is forced.
use Rattle.std.proofs.Common.{ℕ, ◌≡◌, ◌<◌, ◌≤◌, ◌+◌, ◌-◌, ◌⊎◌, inl, inr, Option, Some, None, [], ◌∷◌, ◌++◌, length, refl, sym, ◌∙◌, ap, subst, arith, length-append}
use Rattle.type_hierarchy.specs.Laws.{HasTypeLaws}
use Rattle.fs_model.specs.Claims.{Path, Claim, exists_at, same, below, at, Has}
use Rattle.fs_model.specs.Sources.{Told, told_claim, told_part, Tells, Part}
use Rattle.fs_model.proofs.TableLemmas.{walk-prefix}
use Rattle.fs_graph.specs.GraphMap.{arc_to}
use Rattle.fs_closing.specs.Rules.{system_of}
use Rattle.fs_closing.proofs.HasLemmas.{Has-of_map}
use Rattle.forced_types.specs.declared.given.Given.{Given}
use Rattle.forced_types.specs.declared.nodes.Nodes.{Nodes}
use Rattle.forced_types.specs.Forced.{IsWithin, IsPathIn, given_claim, given_front, same_exists, below_exists, prefix, same_refl, same_sym, same_trans, same_extend, same_type, introduced, met, raised, topped, constrained, constrained_front}
use Rattle.forced_types.specs.Views.{part_of}
use Rattle.forced_types.specs.Inner.Sound.{Forces, Covers, most_of, size_of, entry_in, path_in, source_in}
use Rattle.forced_types.specs.Inner.Closed.{table_in, walk_in, IsFlat, SaysFrom, HoldsAt, IsClosed, Says}

-- two paths that begin one path
pub one_path : (p x q r : Path) → q ++ r ≡ p ++ x → ((s : Path) × (p ≡ q ++ s)) ⊎ ((s : Path) × (q ≡ p ++ s) × (s ++ r ≡ x))
one_path [] x q r e = inr (q, refl, e)
one_path (f ∷ p) x [] r e = inl (f ∷ p, refl)
one_path (f ∷ p) x (h ∷ q) r e =
    let first : h ≡ f = cc in
    let rest : q ++ r ≡ p ++ x = cc in
    go first (one_path p x q r rest)
  where
    go : h ≡ f → ((s : Path) × (p ≡ q ++ s)) ⊎ ((s : Path) × (q ≡ p ++ s) × (s ++ r ≡ x)) →
        ((s : Path) × (f ∷ p ≡ h ∷ q ++ s)) ⊎ ((s : Path) × (h ∷ q ≡ f ∷ p ++ s) × (s ++ r ≡ x))
    go a (inl b) = let e' : f ∷ p ≡ h ∷ (q ++ b.0) = let k = b.1 in cc in inl (b.0, e')
    go a (inr b) = let e' : h ∷ q ≡ f ∷ (p ++ b.0) = let k = b.1 in cc in inr (b.0, e', b.2)

-- a walk that an arc lacks
pub walk-stop : (t : Nodes) (n f : ℕ) (p : Path) → arc_to (entry_in t (entry_in t n).up).arcs f ≡ None → walk_in t n (f ∷ p) ≡ None
walk-stop t n f p e = ap (λ o. elim o as (λ _. Option ℕ) [ None ↦ None | Some m ↦ walk_in t m p ]) e

module _ (t : Nodes) (flat : IsFlat t) where
  -- a walk from a node is the walk from the node that it was merged into
  pub walk-up : (n : ℕ) (p : Path) → n < size_of t → walk_in t (entry_in t n).up p ≡ walk_in t n p
  walk-up n [] h = ap Some (flat.twice n h)
  walk-up n (f ∷ p) h = ap (λ x. elim (arc_to (entry_in t x).arcs f) as (λ _. Option ℕ) [ None ↦ None | Some m ↦ walk_in t m p ]) (flat.twice n h)

  pub walk-on : (n k : ℕ) (p q : Path) → n < size_of t → walk_in t n p ≡ Some k → walk_in t n (p ++ q) ≡ walk_in t k q
  walk-on n k [] q h e =
      let same_node : (entry_in t n).up ≡ k = cc in
      sym (walk-up n q h) ∙ ap (λ x. walk_in t x q) same_node
  walk-on n k (f ∷ p) q h e = go (arc_to (entry_in t (entry_in t n).up).arcs f) refl e (λ m. walk-on m k p q)
    where
      go : (o : Option ℕ) → arc_to (entry_in t (entry_in t n).up).arcs f ≡ o → elim o as (λ _. Option ℕ) [ None ↦ None | Some m ↦ walk_in t m p ] ≡ Some k →
          ((m : ℕ) → m < size_of t → walk_in t m p ≡ Some k → walk_in t m (p ++ q) ≡ walk_in t k q) →
          elim (arc_to (entry_in t (entry_in t n).up).arcs f) as (λ _. Option ℕ) [ None ↦ None | Some m ↦ walk_in t m (p ++ q) ] ≡ walk_in t k q
      go None _ e' _ = absurd cc
      go (Some m) is e' rest = rw is (rest m (flat.arc_in _ f m (flat.up_in n h) is) e')

  -- a walk ends at a live node
  pub walk-ends : (n k : ℕ) (p : Path) → n < size_of t → walk_in t n p ≡ Some k → (k < size_of t) × ((entry_in t k).up ≡ k)
  walk-ends n k [] h e =
      let same_node : (entry_in t n).up ≡ k = cc in
      (subst (λ x. x < size_of t) same_node (flat.up_in n h), subst (λ x. (entry_in t x).up ≡ x) same_node (flat.twice n h))
  walk-ends n k (f ∷ p) h e = go (arc_to (entry_in t (entry_in t n).up).arcs f) refl e (λ m. walk-ends m k p)
    where
      go : (o : Option ℕ) → arc_to (entry_in t (entry_in t n).up).arcs f ≡ o → elim o as (λ _. Option ℕ) [ None ↦ None | Some m ↦ walk_in t m p ] ≡ Some k →
          ((m : ℕ) → m < size_of t → walk_in t m p ≡ Some k → (k < size_of t) × ((entry_in t k).up ≡ k)) → (k < size_of t) × ((entry_in t k).up ≡ k)
      go None _ e' _ = absurd cc
      go (Some m) is e' rest = rest m (flat.arc_in _ f m (flat.up_in n h) is) e'

  -- the arc that a walk of one feature takes from a live node
  pub walk-arc : (n k f : ℕ) → (entry_in t n).up ≡ n → walk_in t n (f ∷ []) ≡ Some k → (m : ℕ) × (arc_to (entry_in t n).arcs f ≡ Some m)
  walk-arc n k f live e = go (arc_to (entry_in t n).arcs f) refl
    where
      go : (o : Option ℕ) → arc_to (entry_in t n).arcs f ≡ o → (m : ℕ) × (arc_to (entry_in t n).arcs f ≡ Some m)
      go None is =
          let stops : walk_in t n (f ∷ []) ≡ None =
          ap (λ x. elim (arc_to (entry_in t x).arcs f) as (λ _. Option ℕ) [ None ↦ None | Some m ↦ walk_in t m [] ]) live
          ∙ ap (λ o. elim o as (λ _. Option ℕ) [ None ↦ None | Some m ↦ walk_in t m [] ]) is in
          absurd cc
      go (Some m) is = (m, is)

module _ (g : Given) (t : Nodes) (closed : IsClosed g t) (laws : HasTypeLaws g.system.now.types) where
  -- the path of a walk's end is no longer than the walk
  walk_near : (n m : ℕ) (p : Path) → n < size_of t → walk_in t n p ≡ Some m → length (path_in t m) ≤ length (path_in t (entry_in t n).up) + length p
  walk_near n m [] h e =
      let same_node : (entry_in t n).up ≡ m = cc in
      let is : length (path_in t (entry_in t n).up) ≡ length (path_in t m) = ap (λ x. length (path_in t x)) same_node in
      omega arith
  walk_near n m (f ∷ p) h e = go (arc_to (entry_in t (entry_in t n).up).arcs f) refl e (λ k. walk_near k m p)
    where
      up_in : (entry_in t n).up < size_of t
      up_in = closed.flat.up_in n h

      go : (o : Option ℕ) → arc_to (entry_in t (entry_in t n).up).arcs f ≡ o → elim o as (λ _. Option ℕ) [ None ↦ None | Some k ↦ walk_in t k p ] ≡ Some m →
          ((k : ℕ) → k < size_of t → walk_in t k p ≡ Some m → length (path_in t m) ≤ length (path_in t (entry_in t k).up) + length p) →
          length (path_in t m) ≤ length (path_in t (entry_in t n).up) + length (f ∷ p)
      go None _ e' _ = absurd cc
      go (Some k) is e' further =
          let k_in = closed.flat.arc_in _ f k up_in is in
          let near = ((closed.nodes (entry_in t n).up up_in (closed.flat.twice n h)).arcs f k is).near in
          let rest = further k k_in e' in
          omega (arith, near, rest)

  root_near : (m : ℕ) (p : Path) → walk_in t 0 p ≡ Some m → length (path_in t m) ≤ length p
  root_near m p e =
      let near = walk_near 0 m p closed.filled e in
      omega (arith, near, closed.root)

  told_holds : (c : Claim) → Told (source_in g) c → HoldsAt g.system.now.types t 0 (most_of g) c
  told_holds _ (told_claim c h) = closed.facts c h
  told_holds _ (told_part part c h tells) =
      let r = Has-of_map part_of part g.parts.now h in
      subst (λ (x : Part). (c : Claim) → Tells x.reader c → HoldsAt g.system.now.types t 0 (most_of g) (at x.place c)) (sym r.2) (closed.told r.0 r.1) c tells

  -- what holds at a node holds at a path to it
  moved : (p : Path) (n : ℕ) → walk_in t 0 p ≡ Some n → (c : Claim) → SaysFrom g.system.now.types t n c → SaysFrom g.system.now.types t 0 (at p c)
  moved p n e (exists_at x) h = (h.0, walk-on t closed.flat 0 n p x closed.filled e ∙ h.1)
  moved p n e (same x y) h =
      (h.0, walk-on t closed.flat 0 n p x closed.filled e ∙ h.1, walk-on t closed.flat 0 n p y closed.filled e ∙ h.2)
  moved p n e (below x u) h = (h.0, walk-on t closed.flat 0 n p x closed.filled e ∙ h.1, h.2)

  within_left : (p : Path) (left : ℕ) (c : Claim) → IsWithin (most_of g) (at p c) → most_of g ≤ length p + left → IsWithin left c
  within_left p left (exists_at x) w h = let v : length (p ++ x) ≤ most_of g = w in omega (arith, length-append p x)
  within_left p left (same x y) w h =
      let v : length (p ++ x) ≤ most_of g = w.0 in
      let z : length (p ++ y) ≤ most_of g = w.1 in
      (omega (arith, length-append p x), omega (arith, length-append p y))
  within_left p left (below x u) w h = let v : length (p ++ x) ≤ most_of g = w in omega (arith, length-append p x)

  path_in_at : (p y : Path) (c : Claim) → IsPathIn y (at p c) → (x : Path) × (y ≡ p ++ x) × IsPathIn x c
  path_in_at p y (exists_at x) e = (x, sym e, refl)
  path_in_at p y (same x z) (inl e) = (x, sym e, inl refl)
  path_in_at p y (same x z) (inr e) = (z, sym e, inr refl)
  path_in_at p y (below x u) e = (x, sym e, refl)

  -- the facts of a type hold at a node, as far as its path lets them go
  facts_hold : (n u : ℕ) (p : Path) (c : Claim) → walk_in t 0 p ≡ Some n → Covers g.system.now.types (entry_in t n).types u →
      Has c ((system_of g.system.now).facts_of u) →
      (left : ℕ) × (most_of g ≤ length p + left) × HoldsAt g.system.now.types t n left c
  facts_hold n u p c e cov i =
      let ends = walk-ends t closed.flat 0 n p closed.filled e in
      let short = closed.short n ends.0 in
      let near = root_near n p e in
      let left : ℕ = most_of g - length (path_in t n) in
      let is : length (path_in t n) + left ≡ most_of g = omega (arith, short) in
      (left, omega (arith, near, is), (closed.nodes n ends.0 ends.1).facts u left c cov i is)

  pub says : (c : Claim) → Forces g c → Says g.system.now.types t (most_of g) c
  says _ (given_claim c h w) = (w, (told_holds c h).claim w)
  says _ (given_front c p q h i l) = (l, (told_holds c h).fronts p q i l)
  says _ (same_exists p q a) = let r = says _ a in (r.0.0, (r.1.0, r.1.1))
  says _ (below_exists p u a) = let r = says _ a in (r.0, (r.1.0, r.1.1))
  says _ (prefix p q a) =
      let r = says _ a in
      let h : length (p ++ q) ≤ most_of g = r.0 in
      (omega (arith, length-append p q), walk-prefix (table_in t) 0 r.1.0 p q r.1.1)
  says _ (same_refl p a) = let r = says _ a in ((r.0, r.0), (r.1.0, r.1.1, r.1.1))
  says _ (same_sym p q a) = let r = says _ a in ((r.0.1, r.0.0), (r.1.0, r.1.2, r.1.1))
  says _ (same_trans p q r a b) =
      let x = says _ a in
      let y = says _ b in
      let one : y.1.0 ≡ x.1.0 = one_end y.1.0 x.1.0 (walk_in t 0 q) y.1.1 x.1.2 in
      ((x.0.0, y.0.1), (x.1.0, x.1.1, y.1.2 ∙ ap Some one))
    where
      one_end : (j k : ℕ) (o : Option ℕ) → o ≡ Some j → o ≡ Some k → j ≡ k
      one_end j k o a b = cc
  says _ (same_extend p q r a b l) =
      let x = says _ a in
      let y = says _ b in
      ((y.0, l), (y.1.0, y.1.1, walk-on t closed.flat 0 x.1.0 q r closed.filled x.1.2 ∙ sym (walk-on t closed.flat 0 x.1.0 p r closed.filled x.1.1) ∙ y.1.1))
  says _ (same_type p q u a b) =
      let x = says _ a in
      let y = says _ b in
      let one : y.1.0 ≡ x.1.0 = one_end y.1.0 x.1.0 (walk_in t 0 p) y.1.1 x.1.1 in
      (x.0.1, (x.1.0, x.1.2, subst (λ k. Covers g.system.now.types (entry_in t k).types u) one y.1.2))
    where
      one_end : (j k : ℕ) (o : Option ℕ) → o ≡ Some j → o ≡ Some k → j ≡ k
      one_end j k o a b = cc
  says _ (introduced p f a) =
      let r = says _ a in
      let h : length (p ++ f ∷ []) ≤ most_of g = r.0 in
      let n = walk-prefix (table_in t) 0 r.1.0 p (f ∷ []) r.1.1 in
      let ends = walk-ends t closed.flat 0 n.0 p closed.filled n.1 in
      let arc = walk-arc t closed.flat n.0 r.1.0 f ends.1 (sym (walk-on t closed.flat 0 n.0 p (f ∷ []) closed.filled n.1) ∙ r.1.1) in
      (omega (arith, length-append p (f ∷ [])), (n.0, n.1, ((closed.nodes n.0 ends.0 ends.1).arcs f arc.0 arc.1).introduced))
  says _ (met p u v m a b e) =
      let x = says _ a in
      let y = says _ b in
      let one : y.1.0 ≡ x.1.0 = one_end y.1.0 x.1.0 (walk_in t 0 p) y.1.1 x.1.1 in
      let ends = walk-ends t closed.flat 0 x.1.0 p closed.filled x.1.1 in
      (x.0, (x.1.0, x.1.1, (closed.nodes x.1.0 ends.0 ends.1).types.meets u v m x.1.2 (subst (λ k. Covers g.system.now.types (entry_in t k).types v) one y.1.2) e))
    where
      one_end : (j k : ℕ) (o : Option ℕ) → o ≡ Some j → o ≡ Some k → j ≡ k
      one_end j k o a b = cc
  says _ (raised p u v a e) =
      let x = says _ a in
      (x.0, (x.1.0, x.1.1, record { lower = x.1.2.lower; has = x.1.2.has; under = laws.transitive _ u v x.1.2.under e }))
  says _ (topped p a) =
      let x = says _ a in
      let ends = walk-ends t closed.flat 0 x.1.0 p closed.filled x.1.1 in
      (x.0, (x.1.0, x.1.1, (closed.nodes x.1.0 ends.0 ends.1).types.top))
  says _ (constrained p u c a i w) =
      let x = says _ a in
      let f = facts_hold x.1.0 u p c x.1.1 x.1.2 i in
      (w, moved p x.1.0 x.1.1 c (f.2.claim (within_left p f.0 c w f.1)))
  says _ (constrained_front p u c q r a i h l) =
      let x = says _ a in
      let f = facts_hold x.1.0 u p c x.1.1 x.1.2 i in
      let y = path_in_at p (q ++ r) c h in
      (l, front p q r y.0 c x.1.0 f.0 x.1.1 l f.1 f.2 y.2 (one_path p y.0 q r y.1))
    where
      front : (p q r y : Path) (c : Claim) (n left : ℕ) → walk_in t 0 p ≡ Some n → length q ≤ most_of g → most_of g ≤ length p + left →
          HoldsAt g.system.now.types t n left c → IsPathIn y c →
          ((s : Path) × (p ≡ q ++ s)) ⊎ ((s : Path) × (q ≡ p ++ s) × (s ++ r ≡ y)) → (m : ℕ) × (walk_in t 0 q ≡ Some m)
      front p q r y c n left e l more holds i (inl b) = walk-prefix (table_in t) 0 n q b.0 (subst (λ z. walk_in t 0 z ≡ Some n) b.1 e)
      front p q r y c n left e l more holds i (inr b) =
          let size = ap length b.1 ∙ length-append p b.0 in
          let m = holds.fronts b.0 r (subst (λ z. IsPathIn z c) (sym b.2) i) (omega (arith, size, l, more)) in
          (m.0, ap (walk_in t 0) b.1 ∙ walk-on t closed.flat 0 n p b.0 closed.filled e ∙ m.1)
