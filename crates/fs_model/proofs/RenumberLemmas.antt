-- A visit's beginning, and the table of the nodes in the order of a visit.
use Rattle.std.proofs.Common.{ℕ, ◌≡◌, ◌≢◌, ◌≤◌, ◌<◌, ◌+◌, ◌⊎◌, inl, inr, true, false, Option, Some, None, option_map, [], ◌∷◌, refl, sym, ◌∙◌, ap, subst, arith}
use Rattle.fs_model.specs.Claims.{Path}
use Rattle.fs_model.specs.Sources.{IsSameStructure}
use Rattle.fs_model.specs.Table.{Table, walk}
use Rattle.fs_model.specs.Numbering.{IsBefore, shorter, seen, IsNumbered, HasHeights}
use Rattle.fs_model.specs.DepthFirst.{Plan, IsPlan, Leads, ends, goes, missing, View, Going, IsSettled, AreArcs, plain}
use Rattle.fs_model.proofs.StepLemmas.{same_or_other}

-- the visit in which the root alone is met
module _ (p : Plan) (ok : IsPlan p) (filled : 0 < p.nodes) (v : View) (count_is : v.count ≡ 1) (depth_is : v.depth ≡ 1) (root_number : v.number 0 ≡ 0)
    (others : (n : ℕ) → n < p.nodes → n ≢ 0 → v.number n ≡ missing) (root_node : v.node_of 0 ≡ 0) (none_closed : (n : ℕ) → v.closed n ≡ false)
    (root_open : v.open_node 0 ≡ 0) (root_next : v.next 0 ≡ p.start 0) where
  only : (k : ℕ) → k < 1 → k ≡ 0
  only k h = omega arith

  at_root : (P : ℕ → Type 0) → P 0 → (k : ℕ) → k < 1 → P k
  at_root P x k h = subst P (sym (only k h)) x

  in_count : (k : ℕ) → k < v.count → k < 1
  in_count k h = omega arith

  in_depth : (k : ℕ) → k < v.depth → k < 1
  in_depth k h = omega arith

  no_closed : {X : Type 0} (n : ℕ) → v.closed n ≡ true → X
  no_closed n c = let e : true ≡ false = sym c ∙ none_closed n in absurd cc

  root_met : v.number 0 ≢ missing
  root_met e = absurd (omega arith)

  is_root : (n : ℕ) → n < p.nodes → v.number n ≢ missing → n ≡ 0
  is_root n h m = go (same_or_other n 0)
    where
      go : (n ≡ 0) ⊎ (n ≢ 0) → n ≡ 0
      go (inl e) = e
      go (inr e) = absurd (m (others n h e))

  root_path : (q : Path) → ([] ≡ q) ⊎ IsBefore [] q
  root_path [] = inl refl
  root_path (f ∷ q) = inr shorter

  pub going_begins : Going p v
  going_begins = record {
    met = λ n h m. let e = is_root n h m in
        (subst (λ z. v.number z < v.count) (sym e) (omega arith), subst (λ z. v.node_of (v.number z) ≡ z) (sym e) (ap v.node_of root_number ∙ root_node));
    ordered = λ i h. at_root (λ z. (v.node_of z < p.nodes) × (v.number (v.node_of z) ≡ z))
        (subst (λ y. y < p.nodes) (sym root_node) filled, ap v.number root_node ∙ root_number) i (in_count i h);
    root = (omega arith, root_node);
    few = omega arith;
    least = λ _. [];
    leads = λ i h. at_root (λ z. Leads p 0 [] (v.node_of z)) (subst (λ y. Leads p 0 [] y) (sym root_node) (ends 0)) i (in_count i h);
    is_least = λ i q h a. root_path q;
    rises = λ i j h k. absurd (omega arith);
    height = λ _. 0;
    bound = 0;
    done = λ n h c. no_closed n c;
    done_arcs = λ n i h c arc. no_closed n c;
    paths = λ _. [];
    open_in = λ k h. at_root (λ z. (v.open_node z < p.nodes) × (v.number (v.open_node z) ≢ missing))
        (subst (λ y. (y < p.nodes) × (v.number y ≢ missing)) (sym root_open) (filled, root_met)) k (in_depth k h);
    open_next = λ k h. at_root (λ z. (p.start (v.open_node z) ≤ v.next z) × (v.next z ≤ p.start (v.open_node z + 1)))
        (let r = ok.rise 0 filled in subst (λ y. (p.start y ≤ v.next 0) × (v.next 0 ≤ p.start (y + 1))) (sym root_open)
        (omega arith, subst (λ y. y ≤ p.start 1) (sym root_next) r)) k (in_depth k h);
    open_not = λ k h. none_closed (v.open_node k);
    distinct = λ j k h i. absurd (omega arith);
    open_all = λ n h m c. (0, omega arith, root_open ∙ sym (is_root n h m));
    base = λ h. (root_open, refl);
    link = λ k h. absurd (omega arith);
    passed = λ k i h a b. absurd (nothing k h i a (omega arith));
    passed_last = λ k i h a b. absurd (nothing k (omega arith) i a b);
    after = λ k i j h a b c. shorter;
  }
    where
      nothing : (k : ℕ) → k < v.depth → (i : ℕ) → p.start (v.open_node k) ≤ i → i < v.next k → ⊥
      nothing k h i a b =
          let e = only k (in_depth k h) in
          let a' : p.start 0 ≤ i = subst (λ z. p.start z ≤ i) (ap v.open_node e ∙ root_open) a in
          let b' : i < p.start 0 = subst (λ z. i < z) (ap v.next e ∙ root_next) b in
          omega arith

-- walks of a table and of its rows
module _ (p : Plan) (ok : IsPlan p) (arc : ℕ → ℕ → Option ℕ) (type_of : ℕ → ℕ) (arcs : AreArcs p arc) where
  abbrev drawn : Table
  drawn = plain p.nodes arc type_of

  pub walk_leads : (n k : ℕ) (q : Path) → n < p.nodes → walk drawn n q ≡ Some k → Leads p n q k
  walk_leads n k [] h e = let i : n ≡ k = cc in subst (λ z. Leads p n [] z) i (ends n)
  walk_leads n k (f ∷ q) h e = go (arc n f) refl (λ m. walk_leads m k q)
    where
      go : (o : Option ℕ) → arc n f ≡ o → ((m : ℕ) → m < p.nodes → walk drawn m q ≡ Some k → Leads p m q k) → Leads p n (f ∷ q) k
      go None is rest =
          let stops : None ≡ walk drawn n (f ∷ q) = ap (λ o. elim o as (λ _. Option ℕ) [ None ↦ None | Some m ↦ walk drawn m q ]) (sym is) in
          absurd (let x : None ≡ Some k = stops ∙ e in cc)
      go (Some m) is rest =
          let on : walk drawn m q ≡ Some k = ap (λ o. elim o as (λ _. Option ℕ) [ None ↦ None | Some m ↦ walk drawn m q ]) (sym is) ∙ e in
          let a = arcs.found n f m h is in
          let m_in : m < p.nodes = subst (λ z. z < p.nodes) a.3 (ok.to_in n a.0 h a.1) in
          goes n a.0 f k q a.1 a.2 (subst (λ z. Leads p z q k) (sym a.3) (rest m m_in on))

  pub leads_walk : (n k : ℕ) (q : Path) → n < p.nodes → Leads p n q k → walk drawn n q ≡ Some k
  leads_walk n _ _ h (ends _) = refl
  leads_walk n k _ h (goes _ i f _ q at is x) =
      ap (λ o. elim o as (λ _. Option ℕ) [ None ↦ None | Some m ↦ walk drawn m q ]) (ap (arc n) (sym is) ∙ arcs.there n i h at)
      ∙ leads_walk (p.to i) k q (ok.to_in n i h at) x

-- the nodes in the order in which they were met
module _ (p : Plan) (ok : IsPlan p) (number node_of : ℕ → ℕ) (count : ℕ) (s : IsSettled p number node_of count)
    (arc : ℕ → ℕ → Option ℕ) (type_of : ℕ → ℕ) (arcs : AreArcs p arc) (arc' : ℕ → ℕ → Option ℕ) (type_of' : ℕ → ℕ)
    (arc_is : (i f : ℕ) → i < count → arc' i f ≡ option_map number (arc (node_of i) f))
    (type_is : (i : ℕ) → i < count → type_of' i ≡ type_of (node_of i)) where
  abbrev old : Table
  old = plain p.nodes arc type_of

  abbrev new : Table
  new = plain count arc' type_of'

  -- an arc of a node that was met leads to one that was met
  arc_met : (i f m : ℕ) → i < count → arc (node_of i) f ≡ Some m → (number m < count) × (node_of (number m) ≡ m)
  arc_met i f m h e =
      let a = arcs.found (node_of i) f m (s.ordered i h).0 e in
      subst (λ z. (number z < count) × (node_of (number z) ≡ z)) a.3 (s.arcs i a.0 h a.1)

  pub walk_new : (i : ℕ) (q : Path) → i < count → walk new i q ≡ option_map number (walk old (node_of i) q)
  walk_new i [] h = ap Some (sym (s.ordered i h).1)
  walk_new i (f ∷ q) h = go (arc (node_of i) f) refl (λ m. walk_new m q)
    where
      go : (o : Option ℕ) → arc (node_of i) f ≡ o →
          ((m : ℕ) → m < count → walk new m q ≡ option_map number (walk old (node_of m) q)) →
          walk new i (f ∷ q) ≡ option_map number (walk old (node_of i) (f ∷ q))
      go None is rest =
          ap (λ o. elim o as (λ _. Option ℕ) [ None ↦ None | Some m ↦ walk new m q ]) (arc_is i f h ∙ ap (option_map number) is)
          ∙ ap (λ o. option_map number (elim o as (λ _. Option ℕ) [ None ↦ None | Some m ↦ walk old m q ])) (sym is)
      go (Some m) is rest =
          let met = arc_met i f m h is in
          ap (λ o. elim o as (λ _. Option ℕ) [ None ↦ None | Some m ↦ walk new m q ]) (arc_is i f h ∙ ap (option_map number) is)
          ∙ rest (number m) met.0
          ∙ ap (λ z. option_map number (walk old z q)) met.1
          ∙ ap (λ o. option_map number (elim o as (λ _. Option ℕ) [ None ↦ None | Some m ↦ walk old m q ])) (sym is)

  root_new : (q : Path) → walk new 0 q ≡ option_map number (walk old 0 q)
  root_new q = walk_new 0 q s.root.0 ∙ ap (λ z. option_map number (walk old z q)) s.root.1

  to_new : (q : Path) (x : ℕ) → walk old 0 q ≡ Some x → walk new 0 q ≡ Some (number x)
  to_new q x e = root_new q ∙ ap (option_map number) e

  from_new : (q : Path) (i : ℕ) → walk new 0 q ≡ Some i → (x : ℕ) × (walk old 0 q ≡ Some x) × (number x ≡ i)
  from_new q i e = go (walk old 0 q) refl
    where
      go : (o : Option ℕ) → walk old 0 q ≡ o → (x : ℕ) × (walk old 0 q ≡ Some x) × (number x ≡ i)
      go None is = let a : None ≡ Some i = ap (option_map number) (sym is) ∙ sym (root_new q) ∙ e in absurd cc
      go (Some x) is = let a : Some (number x) ≡ Some i = ap (option_map number) (sym is) ∙ sym (root_new q) ∙ e in (x, is, cc)

  root_in : 0 < p.nodes
  root_in = subst (λ z. z < p.nodes) s.root.1 (s.ordered 0 s.root.0).0

  -- what the root reaches was met
  pub reached_met : (x : ℕ) (q : Path) → walk old 0 q ≡ Some x → (number x < count) × (node_of (number x) ≡ x)
  reached_met x q e = go (s.root)
    where
      from_node : (i : ℕ) (q : Path) → i < count → walk old (node_of i) q ≡ Some x → (number x < count) × (node_of (number x) ≡ x)
      from_node i [] h e =
          let same : node_of i ≡ x = cc in
          subst (λ z. (number z < count) × (node_of (number z) ≡ z)) same
          (subst (λ z. z < count) (sym (s.ordered i h).1) h, ap node_of (s.ordered i h).1)
      from_node i (f ∷ q) h e = step (arc (node_of i) f) refl (λ m. from_node m q)
        where
          step : (o : Option ℕ) → arc (node_of i) f ≡ o →
              ((m : ℕ) → m < count → walk old (node_of m) q ≡ Some x → (number x < count) × (node_of (number x) ≡ x)) →
              (number x < count) × (node_of (number x) ≡ x)
          step None is rest =
              let stops : None ≡ walk old (node_of i) (f ∷ q) = ap (λ o. elim o as (λ _. Option ℕ) [ None ↦ None | Some m ↦ walk old m q ]) (sym is) in
              absurd (let a : None ≡ Some x = stops ∙ e in cc)
          step (Some m) is rest =
              let met = arc_met i f m h is in
              let on : walk old m q ≡ Some x = ap (λ o. elim o as (λ _. Option ℕ) [ None ↦ None | Some m ↦ walk old m q ]) (sym is) ∙ e in
              rest (number m) met.0 (subst (λ z. walk old z q ≡ Some x) (sym met.1) on)

      go : (0 < count) × (node_of 0 ≡ 0) → (number x < count) × (node_of (number x) ≡ x)
      go r = from_node 0 q r.0 (subst (λ z. walk old z q ≡ Some x) (sym r.1) e)

  pub renumbered_same : IsSameStructure (seen old) (seen new)
  renumbered_same = record {
    there = λ q x e. (number x, to_new q x e);
    there_back = λ q i e. let o = from_new q i e in (o.0, o.1);
    equal = λ q r x i e d c. let a : Some (number x) ≡ Some i = sym (to_new q x e) ∙ c in to_new r x d ∙ a;
    equal_back = λ q r i x e d c.
        let a : Some (number x) ≡ Some i = sym (to_new q x c) ∙ e in
        let number_x : number x ≡ i = cc in
        let o = from_new r i d in
        let same : o.0 ≡ x = sym (reached_met o.0 r o.1).1 ∙ ap node_of (o.2 ∙ sym number_x) ∙ (reached_met x q c).1 in
        o.1 ∙ ap Some same;
    types = λ q x i e d.
        let a : Some (number x) ≡ Some i = sym (to_new q x e) ∙ d in
        let number_x : number x ≡ i = cc in
        let met = reached_met x q e in
        ap type_of (sym met.1) ∙ sym (type_is (number x) met.0) ∙ ap type_of' number_x;
  }

  new_arc_in : (i f m : ℕ) → i < count → arc' i f ≡ Some m → (x : ℕ) × (arc (node_of i) f ≡ Some x) × (number x ≡ m)
  new_arc_in i f m h e = go (arc (node_of i) f) refl
    where
      go : (o : Option ℕ) → arc (node_of i) f ≡ o → (x : ℕ) × (arc (node_of i) f ≡ Some x) × (number x ≡ m)
      go None is = let a : None ≡ Some m = ap (option_map number) (sym is) ∙ sym (arc_is i f h) ∙ e in absurd cc
      go (Some x) is = let a : Some (number x) ≡ Some m = ap (option_map number) (sym is) ∙ sym (arc_is i f h) ∙ e in (x, is, cc)

  pub renumbered_numbered : IsNumbered new s.least
  renumbered_numbered = record {
    table = record {
      live_in = λ n h. h;
      live_twice = λ n. refl;
      arc_in = λ i f m h e. let o = new_arc_in i f m h e in subst (λ z. z < count) o.2 (arc_met i f o.0 h o.1).0;
    };
    live_is = λ n. refl;
    filled = s.root.0;
    is_least = λ i h. record {
      leads = to_new (s.least i) (node_of i) (leads_walk p ok arc type_of arcs 0 (node_of i) (s.least i) root_in (s.leads i h)) ∙ ap Some (s.ordered i h).1;
      least = λ q e.
          let o = from_new q i e in
          let met = reached_met o.0 q o.1 in
          let same : o.0 ≡ node_of i = sym met.1 ∙ ap node_of o.2 in
          s.is_least i q h (walk_leads p ok arc type_of arcs 0 (node_of i) q root_in (o.1 ∙ ap Some same));
    };
    rises = s.rises;
  }

  pub renumbered_falls : HasHeights new (λ i. s.height (node_of i))
  renumbered_falls = record {
    falls = λ i f m h _ e.
        let o = new_arc_in i f m h e in
        let met = arc_met i f o.0 h o.1 in
        let a = arcs.found (node_of i) f o.0 (s.ordered i h).0 o.1 in
        let same : p.to a.0 ≡ node_of m = a.3 ∙ sym met.1 ∙ ap node_of o.2 in
        subst (λ z. s.height z < s.height (node_of i)) same (s.falls i a.0 h a.1);
  }
