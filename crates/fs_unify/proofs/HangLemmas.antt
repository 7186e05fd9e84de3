-- What hangs in a graph, and what leads to it, as a graph of its own.
use Rattle.std.specs.Prelude.{ℕ, ◌≡◌, ◌≤◌, ◌<◌, ◌==◌, ◌+◌, ◌||◌, ◌&&◌, Bool, true, false, cond, Option, Some, None, List, [], ◌∷◌, length}
use Rattle.std.specs.List.{filter, list_any}
use Rattle.std.proofs.Common.{refl, sym, ◌∙◌, ap, subst, arith}
use Rattle.type_hierarchy.specs.declared.types.Ty.{Ty}
use Rattle.fs_model.specs.Claims.{Path, Has, here, there}
use Rattle.fs_model.specs.Table.{walk}
use Rattle.fs_model.proofs.TableLemmas.{walk-step, walk_ends}
use Rattle.fs_graph.specs.declared.graph.GraphArc.{GraphArc}
use Rattle.fs_graph.specs.declared.graph.Node.{Node}
use Rattle.fs_graph.specs.declared.clash.Clash.TheVariants.{Cycle}
use Rattle.fs_graph.specs.GraphMap.{GraphMap, IsGraph, table_of, arcs_at, arc_to}
use Rattle.fs_graph.specs.Inside.{graph_map}
use Rattle.fs_graph.specs.Orders.{IsClash}
use Rattle.fs_graph.proofs.RowLemmas.{row_at}
use Rattle.fs_drawing.specs.Cutting.{is_one_of, is_cut_off}
use Rattle.fs_drawing.proofs.FilterLemmas.{rises-filter}
use Rattle.fs_unify.specs.Inner.Hanging.{marked, cuts, keeps, kept_at, AreClosed, IsKeptPlan}
use Rattle.fs_unify.proofs.EnterLemmas.{arc_to_has, rises_found}

-- what a list of the arcs that pass holds
has_kept : (p : GraphArc → Bool) (xs : List GraphArc) (k : GraphArc) → Has k xs → p k ≡ true → Has k (filter p xs)
has_kept p [] k h e = elim h [ ]
has_kept p (x ∷ xs) k h e = go (p x) refl h (has_kept p xs k)
  where
    go : (b : Bool) → p x ≡ b → Has k (x ∷ xs) → (Has k xs → p k ≡ true → Has k (filter p xs)) → Has k (cond (p x) (x ∷ filter p xs) (filter p xs))
    go true is i rest = rw is (at_first k x xs (filter p xs) i (λ m. rest m e))
      where
        at_first : (k x : GraphArc) (xs ys : List GraphArc) → Has k (x ∷ xs) → (Has k xs → Has k ys) → Has k (x ∷ ys)
        at_first k _ xs ys here f = here
        at_first k x xs ys (there m) f = there (f m)
    go false is i rest = rw is (past k x xs (filter p xs) i (λ d. absurd (let f : false ≡ true = sym is ∙ ap p (sym d) ∙ e in cc)) (λ m. rest m e))
      where
        past : (k x : GraphArc) (xs ys : List GraphArc) → Has k (x ∷ xs) → (k ≡ x → Has k ys) → (Has k xs → Has k ys) → Has k ys
        past k _ xs ys here f g = f refl
        past k x xs ys (there m) f g = g m

of_kept : (p : GraphArc → Bool) (xs : List GraphArc) (k : GraphArc) → Has k (filter p xs) → Has k xs × (p k ≡ true)
of_kept p [] k h = elim h [ ]
of_kept p (x ∷ xs) k h = go (p x) refl h (of_kept p xs k)
  where
    one : (k x : GraphArc) (xs ys : List GraphArc) → p x ≡ true → Has k (x ∷ ys) → (Has k ys → Has k xs × (p k ≡ true)) → Has k (x ∷ xs) × (p k ≡ true)
    one k _ xs ys is here rest = (here, is)
    one k x xs ys is (there j) rest = let r = rest j in (there r.0, r.1)

    go : (b : Bool) → p x ≡ b → Has k (cond (p x) (x ∷ filter p xs) (filter p xs)) → (Has k (filter p xs) → Has k xs × (p k ≡ true)) →
        Has k (x ∷ xs) × (p k ≡ true)
    go true is i rest = one k x xs (filter p xs) is (rw is at i) rest
    go false is i rest = let r = rest (rw is at i) in (there r.0, r.1)

either_true : (a b : Bool) → b ≡ true → (a || b) ≡ true
either_true true b e = refl
either_true false b e = e

-- the arcs of a graph
arc_in : (whole : GraphMap) (is : IsGraph whole) (n f m : ℕ) → n < length whole.types → arc_to (arcs_at whole n) f ≡ Some m → m < length whole.types
arc_in whole is n f m h e = is.numbered.table.arc_in n f m h e

no_step : (g : GraphMap) (n f m : ℕ) (q : Path) → arc_to (arcs_at g n) f ≡ None → walk (table_of g) n (f ∷ q) ≡ Some m → ⊥
no_step g n f m q e w =
    let stops : None ≡ walk (table_of g) n (f ∷ q) = ap (λ o. elim o as (λ _. Option ℕ) [ None ↦ None | Some i ↦ walk (table_of g) i q ]) (sym e) in
    let d : None ≡ Some m = stops ∙ w in cc

-- WHAT IS KEPT

module _ (whole : GraphMap) (is : IsGraph whole) (hang lead : List Bool) (types : List Ty) (starts : List ℕ) (arcs : List GraphArc)
    (plan : IsKeptPlan hang lead whole types starts arcs) where
  row_kept : (n : ℕ) → n < length whole.types → arcs_at (graph_map types starts arcs) n ≡ kept_at hang lead whole n
  row_kept n h = let i : n < length types = omega (arith, h, plan.size_is) in row_at types starts arcs n i ∙ plan.rows_are n i

  -- an arc that is kept is an arc, and leads to a node that is kept
  pub plan_arc : (n f m : ℕ) → n < length whole.types → arc_to (arcs_at (graph_map types starts arcs) n) f ≡ Some m →
      (arc_to (arcs_at whole n) f ≡ Some m) × (keeps hang lead m ≡ true)
  plan_arc n f m h e =
      let r = arc_to_has (kept_at hang lead whole n) f m (ap (λ l. arc_to l f) (sym (row_kept n h)) ∙ e) in
      let k = of_kept (λ a. keeps hang lead a.to.0) (arcs_at whole n) r.0 r.1 in
      let found = rises_found (arcs_at whole n) r.0 (is.rises n h) k.0 in
      (ap (arc_to (arcs_at whole n)) (sym r.2) ∙ found ∙ ap Some r.3, subst (λ i. keeps hang lead i ≡ true) r.3 k.1)

  pub whole_arc : (n f m : ℕ) → n < length whole.types → arc_to (arcs_at whole n) f ≡ Some m → keeps hang lead m ≡ true →
      arc_to (arcs_at (graph_map types starts arcs) n) f ≡ Some m
  whole_arc n f m h e kept =
      let r = arc_to_has (arcs_at whole n) f m e in
      let has = has_kept (λ a. keeps hang lead a.to.0) (arcs_at whole n) r.0 r.1 (subst (λ i. keeps hang lead i ≡ true) (sym r.3) kept) in
      let found = rises_found (kept_at hang lead whole n) r.0 (rises-filter (λ a. keeps hang lead a.to.0) (arcs_at whole n) (is.rises n h)) has in
      ap (λ l. arc_to l f) (row_kept n h) ∙ ap (arc_to (kept_at hang lead whole n)) (sym r.2) ∙ found ∙ ap Some r.3

  -- paths that are kept are paths
  pub plan_walk : (q : Path) (n m : ℕ) → n < length whole.types → walk (table_of (graph_map types starts arcs)) n q ≡ Some m → walk (table_of whole) n q ≡ Some m
  plan_walk [] n m h w = w
  plan_walk (f ∷ q) n m h w = go (arc_to (arcs_at (graph_map types starts arcs) n) f) refl (λ j. plan_walk q j m)
    where
      go : (o : Option ℕ) → arc_to (arcs_at (graph_map types starts arcs) n) f ≡ o →
          ((j : ℕ) → j < length whole.types → walk (table_of (graph_map types starts arcs)) j q ≡ Some m → walk (table_of whole) j q ≡ Some m) → walk (table_of whole) n (f ∷ q) ≡ Some m
      go None e rest = absurd (no_step (graph_map types starts arcs) n f m q e w)
      go (Some j) e rest =
          let a = (plan_arc n f j h e).0 in
          walk-step (table_of whole) n j f q a ∙ rest j (arc_in whole is n f j h a) (sym (walk-step (table_of (graph_map types starts arcs)) n j f q e) ∙ w)

  plan_falls : (n f m : ℕ) → n < length whole.types → arc_to (arcs_at (graph_map types starts arcs) n) f ≡ Some m → (is.height m < is.height n) × (m < length whole.types)
  plan_falls n f m h e = let a = (plan_arc n f m h e).0 in (is.falls.falls n f m h refl a, arc_in whole is n f m h a)

  walk_falls : (q : Path) (n m : ℕ) → n < length whole.types → walk (table_of (graph_map types starts arcs)) n q ≡ Some m → is.height m + length q ≤ is.height n
  walk_falls [] n m h w = let z : n ≡ m = cc in let y = ap is.height z in omega (arith, y)
  walk_falls (f ∷ q) n m h w = go (arc_to (arcs_at (graph_map types starts arcs) n) f) refl (λ j. walk_falls q j m)
    where
      go : (o : Option ℕ) → arc_to (arcs_at (graph_map types starts arcs) n) f ≡ o →
          ((j : ℕ) → j < length whole.types → walk (table_of (graph_map types starts arcs)) j q ≡ Some m → is.height m + length q ≤ is.height j) → is.height m + length (f ∷ q) ≤ is.height n
      go None e rest = absurd (no_step (graph_map types starts arcs) n f m q e w)
      go (Some j) e rest =
          let x = plan_falls n f j h e in
          let z = rest j x.1 (sym (walk-step (table_of (graph_map types starts arcs)) n j f q e) ∙ w) in
          omega (arith, x.0, z)

  -- no node reaches itself
  pub no_cycle : (n : Node) → IsClash (graph_map types starts arcs) (Cycle n) → ⊥
  no_cycle n (reached, (q, some, e)) = some (empty q (let z = walk_falls q n.0 n.0 n_in e in omega (arith, z)))
    where
      n_in : n.0 < length whole.types
      n_in = (walk_ends (table_of whole) is.numbered.table 0 n.0 reached.0 is.numbered.filled (plan_walk reached.0 0 n.0 is.numbered.filled reached.1)).0

      empty : (q : Path) → length q ≡ 0 → q ≡ []
      empty [] z = refl
      empty (f ∷ q) z = absurd (omega (arith, z))

-- WHAT HANGS

module _ (whole : GraphMap) (is : IsGraph whole) (at_root anywhere : List ℕ) (hang lead : List Bool) (closed : AreClosed at_root anywhere hang lead whole (length whole.types)) where
  -- the marks at both ends of an arc
  at_arc : (n f m : ℕ) → n < length whole.types → arc_to (arcs_at whole n) f ≡ Some m →
      (cuts at_root anywhere (n == 0) f ≡ true → marked hang m ≡ true) × (marked hang n ≡ true → marked hang m ≡ true) × (keeps hang lead m ≡ true → marked lead n ≡ true)
  at_arc n f m h e =
      let r = arc_to_has (arcs_at whole n) f m e in
      let c = closed n r.0 h r.1 in (
        λ x. subst (λ k. marked hang k ≡ true) r.3 (c.cut (subst (λ k. cuts at_root anywhere (n == 0) k ≡ true) (sym r.2) x)),
        λ x. subst (λ k. marked hang k ≡ true) r.3 (c.hangs x),
        λ x. c.leads (subst (λ k. keeps hang lead k ≡ true) (sym r.3) x),
      )

  -- what comes behind a node that hangs does
  pub hang_on : (q : Path) (n m : ℕ) → n < length whole.types → walk (table_of whole) n q ≡ Some m → marked hang n ≡ true → marked hang m ≡ true
  hang_on [] n m h w hangs = subst (λ k. marked hang k ≡ true) (let d : n ≡ m = cc in d) hangs
  hang_on (f ∷ q) n m h w hangs = go (arc_to (arcs_at whole n) f) refl (λ j. hang_on q j m)
    where
      go : (o : Option ℕ) → arc_to (arcs_at whole n) f ≡ o → ((j : ℕ) → j < length whole.types → walk (table_of whole) j q ≡ Some m → marked hang j ≡ true → marked hang m ≡ true) →
          marked hang m ≡ true
      go None e rest = absurd (no_step whole n f m q e w)
      go (Some j) e rest = rest j (arc_in whole is n f j h e) (sym (walk-step (table_of whole) n j f q e) ∙ w) ((at_arc n f j h e).1 hangs)

  -- what leads to a node that is kept is kept
  kept_before : (q : Path) (n m : ℕ) → n < length whole.types → walk (table_of whole) n q ≡ Some m → keeps hang lead m ≡ true → keeps hang lead n ≡ true
  kept_before [] n m h w kept = subst (λ k. keeps hang lead k ≡ true) (let d : m ≡ n = cc in d) kept
  kept_before (f ∷ q) n m h w kept = go (arc_to (arcs_at whole n) f) refl (λ j. kept_before q j m)
    where
      go : (o : Option ℕ) → arc_to (arcs_at whole n) f ≡ o →
          ((j : ℕ) → j < length whole.types → walk (table_of whole) j q ≡ Some m → keeps hang lead m ≡ true → keeps hang lead j ≡ true) → keeps hang lead n ≡ true
      go None e rest = absurd (no_step whole n f m q e w)
      go (Some j) e rest =
          either_true (marked hang n) (marked lead n)
          ((at_arc n f j h e).2 (rest j (arc_in whole is n f j h e) (sym (walk-step (table_of whole) n j f q e) ∙ w) kept))

  past_cut : (q : Path) (n m : ℕ) → n < length whole.types → walk (table_of whole) n q ≡ Some m → list_any (is_one_of anywhere) q ≡ true → marked hang m ≡ true
  past_cut [] n m h w one = absurd (let d : false ≡ true = one in cc)
  past_cut (f ∷ q) n m h w one = go (arc_to (arcs_at whole n) f) refl (λ j. past_cut q j m)
    where
      go : (o : Option ℕ) → arc_to (arcs_at whole n) f ≡ o →
          ((j : ℕ) → j < length whole.types → walk (table_of whole) j q ≡ Some m → list_any (is_one_of anywhere) q ≡ true → marked hang m ≡ true) → marked hang m ≡ true
      go None e rest = absurd (no_step whole n f m q e w)
      go (Some j) e rest = by_first (is_one_of anywhere f) refl
        where
          by_first : (b : Bool) → is_one_of anywhere f ≡ b → marked hang m ≡ true
          by_first true x =
              hang_on q j m (arc_in whole is n f j h e) (sym (walk-step (table_of whole) n j f q e) ∙ w)
              ((at_arc n f j h e).0 (either_true ((n == 0) && is_one_of at_root f) (is_one_of anywhere f) x))
          by_first false x = rest j (arc_in whole is n f j h e) (sym (walk-step (table_of whole) n j f q e) ∙ w) (ap (λ b. b || list_any (is_one_of anywhere) q) (sym x) ∙ one)

  -- what a path reaches that is cut off hangs
  pub cut_hangs : (q : Path) (m : ℕ) → walk (table_of whole) 0 q ≡ Some m → is_cut_off at_root anywhere q ≡ true → marked hang m ≡ true
  cut_hangs [] m w cut = past_cut [] 0 m is.numbered.filled w cut
  cut_hangs (f ∷ q) m w cut = by_root (is_one_of at_root f) refl
    where
      by_root : (b : Bool) → is_one_of at_root f ≡ b → marked hang m ≡ true
      by_root false x = past_cut (f ∷ q) 0 m is.numbered.filled w (ap (λ b. b || list_any (is_one_of anywhere) (f ∷ q)) (sym x) ∙ cut)
      by_root true x = go (arc_to (arcs_at whole 0) f) refl
        where
          go : (o : Option ℕ) → arc_to (arcs_at whole 0) f ≡ o → marked hang m ≡ true
          go None e = absurd (no_step whole 0 f m q e w)
          go (Some j) e =
              hang_on q j m (arc_in whole is 0 f j is.numbered.filled e) (sym (walk-step (table_of whole) 0 j f q e) ∙ w)
              ((at_arc 0 f j is.numbered.filled e).0 (ap (λ b. b || is_one_of anywhere f) x))

  module _ (types : List Ty) (starts : List ℕ) (arcs : List GraphArc) (plan : IsKeptPlan hang lead whole types starts arcs) where
    -- and those to nodes that are kept are kept
    pub whole_walk : (q : Path) (n m : ℕ) → n < length whole.types → walk (table_of whole) n q ≡ Some m → keeps hang lead m ≡ true →
        walk (table_of (graph_map types starts arcs)) n q ≡ Some m
    whole_walk [] n m h w kept = w
    whole_walk (f ∷ q) n m h w kept = go (arc_to (arcs_at whole n) f) refl (λ j. whole_walk q j m)
      where
        go : (o : Option ℕ) → arc_to (arcs_at whole n) f ≡ o →
            ((j : ℕ) → j < length whole.types → walk (table_of whole) j q ≡ Some m → keeps hang lead m ≡ true → walk (table_of (graph_map types starts arcs)) j q ≡ Some m) →
            walk (table_of (graph_map types starts arcs)) n (f ∷ q) ≡ Some m
        go None e rest = absurd (no_step whole n f m q e w)
        go (Some j) e rest =
            let on = sym (walk-step (table_of whole) n j f q e) ∙ w in
            let j_in = arc_in whole is n f j h e in
            let a = whole_arc whole is hang lead types starts arcs plan n f j h e (kept_before q j m j_in on kept) in
            walk-step (table_of (graph_map types starts arcs)) n j f q a ∙ rest j j_in on kept
