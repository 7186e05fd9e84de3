-- The steps of a visit for the lengths of paths.
use Rattle.std.proofs.Common.{ℕ, ◌≡◌, ◌≢◌, ◌≤◌, ◌<◌, ◌+◌, ◌⊎◌, inl, inr, Option, Some, None, List, [], ◌∷◌, ◌++◌, length, slice_index, refl, sym, ◌∙◌, ap, subst, arith, length-append}
use Rattle.std.proofs.lemmas.Bool.{cases_lt}
use Rattle.std.proofs.lemmas.List.{length_push}
use Rattle.fs_model.specs.Claims.{Path, Has, here}
use Rattle.fs_model.specs.Sources.{Told}
use Rattle.fs_model.specs.Table.{Table, IsTable, walk}
use Rattle.fs_model.proofs.AnswerLemmas.{walk_clash, cycle_clash}
use Rattle.fs_model.proofs.StepLemmas.{same_or_other}
use Rattle.fs_model.proofs.TableLemmas.{walk-live, walk-append}
use Rattle.fs_closing.specs.declared.cells.Cell.{Cell}
use Rattle.fs_closing.specs.declared.nodes.Nodes.{Nodes}
use Rattle.fs_closing.specs.Keeps.{deep_of}
use Rattle.fs_closing.specs.NodeTable.{at_of, own_row, own_type, row_of, table_of, IsWhole}
use Rattle.fs_closing.proofs.ChainLemmas.{find_arc-has}
use Rattle.fs_closing.proofs.HasLemmas.{Has-left, Has-right, Has-either, Has-one}
use Rattle.fs_closing.proofs.MarkLemmas.{table_whole, root_lives}
use Rattle.fs_drawing.specs.declared.bounds.Open.{Open}
use Rattle.fs_drawing.specs.declared.bounds.Heights.{Heights}
use Rattle.fs_drawing.specs.Drawing.{BoundsPaths, Answers}
use Rattle.fs_drawing.specs.Noting.{Noted}
use Rattle.fs_drawing.specs.Inner.Climbing.{IsLower, IsAttained, arcs_left, IsPassing, IsTop, IsNext, IsOpen, IsAbove, IsClimbing, AreClimbing}
use Rattle.fs_drawing.proofs.ClimbArcs.{above_push, above_front, above_last, walk_on}

module _ (nodes : Nodes) (whole : IsWhole nodes) where
  abbrev t : Table
  t = table_of nodes

  ok : IsTable (table_of nodes)
  ok = table_whole (at_of nodes) (own_type nodes) (own_row nodes) nodes.cells nodes.merges nodes.size whole.stands

  -- a number is noted at a node that isn't done with
  module _ (n v : ℕ) (old new : List ℕ) (at : Noted n v old new) (before : slice_index old n ≤ 1) where
    still : (m : ℕ) → 2 ≤ slice_index old m → slice_index new m ≡ slice_index old m
    still m h = at.others m (λ e. absurd (let d = ap (slice_index old) e in omega (arith, before, d, h)))

    lower_on : (m high : ℕ) → IsLower (slice_index old) m high → IsLower (slice_index new) m high
    lower_on m high l = let s = still m l.0 in let a = l.0 in let b = l.1 in (omega (arith, s, a), omega (arith, s, b))

    attained_on : (k high : ℕ) → IsAttained nodes (slice_index old) k high → IsAttained nodes (slice_index new) k high
    attained_on k high (inl e) = inl e
    attained_on k high (inr (c, has, is, some)) = inr (c, has, still (t.live c.to) (omega (arith, is, some)) ∙ is, some)

    passing_on : (x : Open) → IsPassing nodes (slice_index old) x → IsPassing nodes (slice_index new) x
    passing_on x p = record { place_in = p.place_in; left = p.left; passed = λ c h. go c (p.passed c h); attained = attained_on x.node x.high p.attained }
      where
        go : (c : Cell) → Has c (arcs_left nodes x) ⊎ IsLower (slice_index old) (t.live c.to) x.high → Has c (arcs_left nodes x) ⊎ IsLower (slice_index new) (t.live c.to) x.high
        go c (inl h) = inl h
        go c (inr l) = inr (lower_on (t.live c.to) x.high l)

    open_on : (x : Open) → x.node ≢ n → IsOpen nodes (slice_index old) x → IsOpen nodes (slice_index new) x
    open_on x apart o = record {
      node_in = o.node_in;
      lives = o.lives;
      marked = at.others x.node apart ∙ o.marked;
      passing = passing_on x o.passing;
      reached = o.reached;
    }

  module _ (limit : ℕ) where
    -- the last open node, of which other arcs were passed
    pub refit : (noted : ℕ → ℕ) (front : List Open) (x y : Open) → y.node ≡ x.node → IsPassing nodes noted y → IsClimbing nodes limit noted (front ++ x ∷ []) →
        IsClimbing nodes limit noted (front ++ y ∷ [])
    refit noted front x y same passing g = record {
      done = g.done;
      low = g.low;
      each = λ w h. each w (Has-either w front (y ∷ []) h);
      above = above_push t front y (above_front t front x g.above) (λ w h. subst (IsAbove t w.node) (sym same) (above_last t front x g.above w h));
      all = λ n e. all n (g.all n e);
      root = g.root;
    }
      where
        old_open : IsOpen nodes noted x
        old_open = g.each x (Has-right x front (x ∷ []) here)

        new_open : IsOpen nodes noted y
        new_open = record {
          node_in = subst (λ n. n < nodes.size) (sym same) old_open.node_in;
          lives = subst (λ n. t.live n ≡ n) (sym same) old_open.lives;
          marked = subst (λ n. noted n ≡ 1) (sym same) old_open.marked;
          passing = passing;
          reached = subst (λ n. (p : Path) × (walk t 0 p ≡ Some n)) (sym same) old_open.reached;
        }

        each : (w : Open) → Has w front ⊎ Has w (y ∷ []) → IsOpen nodes noted w
        each w (inl h) = g.each w (Has-left w front (x ∷ []) h)
        each w (inr h) = subst (IsOpen nodes noted) (sym (Has-one w y h)) new_open

        all : (n : ℕ) → (w : Open) × Has w (front ++ x ∷ []) × (w.node ≡ n) → (w : Open) × Has w (front ++ y ∷ []) × (w.node ≡ n)
        all n (w, h, e) = go (Has-either w front (x ∷ []) h)
          where
            go : Has w front ⊎ Has w (x ∷ []) → (z : Open) × Has z (front ++ y ∷ []) × (z.node ≡ n)
            go (inl i) = (w, Has-left w front (y ∷ []) i, e)
            go (inr i) = (y, Has-right y front (y ∷ []) here, same ∙ ap (λ (z : Open). z.node) (sym (Has-one w x i)) ∙ e)

    -- the next arc of the last open node leads to a node that wasn't met
    module _ (old new : List ℕ) (front : List Open) (x z : Open) (to : ℕ) (g : IsClimbing nodes limit (slice_index old) (front ++ x ∷ []))
        (next : IsNext nodes (slice_index old) x.node to) (fresh : slice_index old to ≢ 1) (at : Noted to 1 old new) (z_is : z.node ≡ to)
        (z_passing : (noted : ℕ → ℕ) → IsPassing nodes noted z) where
      unmet : slice_index old to ≡ 0
      unmet = go (cases_lt 0 (slice_index old to))
        where
          go : (0 < slice_index old to) ⊎ (slice_index old to ≤ 0) → slice_index old to ≡ 0
          go (inl h) = absurd (fresh (let low = next.4 in omega (arith, h, low)))
          go (inr h) = omega (arith, h)

      here_open : IsOpen nodes (slice_index old) x
      here_open = g.each x (Has-right x front (x ∷ []) here)

      last_arc : walk t x.node (next.0.feat ∷ []) ≡ Some to
      last_arc = walk_on nodes whole x.node here_open.node_in here_open.lives next.0 next.1 [] ∙ ap Some (ok.live_twice next.0.to ∙ sym next.2)

      goes_on : (n : ℕ) (p : Path) → walk t n p ≡ Some x.node → walk t n (p ++ next.0.feat ∷ []) ≡ Some to
      goes_on n p e = walk-append t ok n x.node p (next.0.feat ∷ []) e ∙ last_arc

      not_open : (w : Open) → Has w (front ++ x ∷ []) → w.node ≢ to
      not_open w h e = let d = ap (slice_index old) e in let m = (g.each w h).marked in let u = unmet in absurd (omega (arith, d, m, u))

      before : slice_index old to ≤ 1
      before = next.4

      same_new : (n : ℕ) → 2 ≤ slice_index new n → slice_index old n ≡ slice_index new n
      same_new n h = sym (at.others n (λ e. absurd (let d = ap (slice_index new) e in let i = at.here in omega (arith, d, i, h))))

      lower : (n f m : ℕ) → 2 ≤ slice_index new n → t.arc n f ≡ Some m → (2 ≤ slice_index new (t.live m)) × (slice_index new (t.live m) < slice_index new n)
      lower n f m h a =
          let s = same_new n h in
          let l = g.done.lower n f m (omega (arith, s, h)) a in
          let k = still to 1 old new at before (t.live m) l.0 in
          let p = l.0 in
          let q = l.1 in
          (omega (arith, k, p), omega (arith, s, k, q))

      attained : (n : ℕ) → 2 ≤ slice_index new n → (p : Path) × (y : ℕ) × (walk t n p ≡ Some y) × (length p + 2 ≡ slice_index new n)
      attained n h = let s = same_new n h in let r = g.done.attained n (omega (arith, s, h)) in (r.0, r.1, r.2, r.3 ∙ s)

      z_open : IsOpen nodes (slice_index new) z
      z_open = record {
        node_in = subst (λ n. n < nodes.size) (sym z_is) next.3;
        lives = subst (λ n. t.live n ≡ n) (sym (z_is ∙ next.2)) (ok.live_twice next.0.to);
        marked = ap (slice_index new) z_is ∙ at.here;
        passing = z_passing (slice_index new);
        reached = let r = here_open.reached in (r.0 ++ next.0.feat ∷ [], goes_on 0 r.0 r.1 ∙ ap Some (sym z_is));
      }

      each : (w : Open) → Has w (front ++ x ∷ []) ⊎ Has w (z ∷ []) → IsOpen nodes (slice_index new) w
      each w (inl h) = open_on to 1 old new at before w (not_open w h) (g.each w h)
      each w (inr h) = subst (IsOpen nodes (slice_index new)) (sym (Has-one w z h)) z_open

      reaches : (w : Open) → Has w front ⊎ Has w (x ∷ []) → (p : Path) × (walk t w.node p ≡ Some z.node)
      reaches w (inl h) = let r = (above_last t front x g.above w h).1 in (r.0 ++ next.0.feat ∷ [], goes_on w.node r.0 r.1 ∙ ap Some (sym z_is))
      reaches w (inr h) =
          subst (λ (v : Open). (p : Path) × (walk t v.node p ≡ Some z.node)) (sym (Has-one w x h)) (next.0.feat ∷ [], last_arc ∙ ap Some (sym z_is))

      all : (n : ℕ) → slice_index new n ≡ 1 → (n ≡ to) ⊎ (n ≢ to) → (w : Open) × Has w ((front ++ x ∷ []) ++ z ∷ []) × (w.node ≡ n)
      all n e (inl is) = (z, Has-right z (front ++ x ∷ []) (z ∷ []) here, z_is ∙ sym is)
      all n e (inr apart) = let o = g.all n (sym (at.others n apart) ∙ e) in (o.0, Has-left o.0 (front ++ x ∷ []) (z ∷ []) o.1, o.2)

      low : (n : ℕ) → (n ≡ to) ⊎ (n ≢ to) → slice_index new n ≤ limit + 2
      low n (inl e) = let d = ap (slice_index new) e in let i = at.here in omega (arith, d, i)
      low n (inr a) = let s = at.others n a in let l = g.low n in omega (arith, s, l)

      root : (0 ≡ to) ⊎ (0 ≢ to) → 0 < slice_index new 0
      root (inl e) = let d = ap (slice_index new) e in let i = at.here in omega (arith, d, i)
      root (inr a) = let s = at.others 0 a in let r = g.root in omega (arith, s, r)

      pub climbing_enters : IsClimbing nodes limit (slice_index new) ((front ++ x ∷ []) ++ z ∷ [])
      climbing_enters = record {
        done = record { lower = lower; attained = attained };
        low = λ n. low n (same_or_other n to);
        each = λ w h. each w (Has-either w (front ++ x ∷ []) (z ∷ []) h);
        above = above_push t (front ++ x ∷ []) z g.above
            (λ w h. ((λ e. not_open w h (e ∙ z_is)), reaches w (Has-either w front (x ∷ []) h)));
        all = λ n e. all n e (same_or_other n to);
        root = root (same_or_other 0 to);
      }

    -- the last open node is done with
    module _ (old new : List ℕ) (front : List Open) (x : Open) (g : IsClimbing nodes limit (slice_index old) (front ++ x ∷ []))
        (top : IsTop nodes (slice_index old) x.node x.high) (within : x.high ≤ limit) (at : Noted x.node (x.high + 2) old new) where
      top_open : IsOpen nodes (slice_index old) x
      top_open = g.each x (Has-right x front (x ∷ []) here)

      marked : slice_index old x.node ≤ 1
      marked = let m = top_open.marked in omega (arith, m)

      keeps : (m : ℕ) → 2 ≤ slice_index old m → slice_index new m ≡ slice_index old m
      keeps m h = still x.node (x.high + 2) old new at marked m h

      lower' : (n f m : ℕ) → 2 ≤ slice_index new n → t.arc n f ≡ Some m → (n ≡ x.node) ⊎ (n ≢ x.node) →
          (2 ≤ slice_index new (t.live m)) × (slice_index new (t.live m) < slice_index new n)
      lower' n f m h a (inl e) =
          let c = find_arc-has (row_of nodes x.node) f m (ap (λ k. t.arc k f) (sym e) ∙ a) in
          let l = subst (λ k. IsLower (slice_index old) (t.live k) x.high) c.3 (top.lower c.0 c.1) in
          let s = keeps (t.live m) l.0 in
          let p = l.0 in
          let q = l.1 in
          let d = ap (slice_index new) e in
          let i = at.here in
          (omega (arith, s, p), omega (arith, s, q, d, i))
      lower' n f m h a (inr apart) =
          let s = at.others n apart in
          let l = g.done.lower n f m (omega (arith, s, h)) a in
          let k = keeps (t.live m) l.0 in
          let p = l.0 in
          let q = l.1 in
          (omega (arith, k, p), omega (arith, s, k, q))

      here_attained : IsAttained nodes (slice_index old) x.node x.high → (p : Path) × (y : ℕ) × (walk t x.node p ≡ Some y) × (length p ≡ x.high)
      here_attained (inl e) = ([], t.live x.node, refl, sym e)
      here_attained (inr (c, has, is, some)) =
          let r = g.done.attained (t.live c.to) (omega (arith, is, some)) in
          let long = r.3 in
          (c.feat ∷ r.0, r.1, walk_on nodes whole x.node top_open.node_in top_open.lives c has r.0 ∙ r.2, omega (arith, is, long))

      attained' : (n : ℕ) → 2 ≤ slice_index new n → (n ≡ x.node) ⊎ (n ≢ x.node) →
          (p : Path) × (y : ℕ) × (walk t n p ≡ Some y) × (length p + 2 ≡ slice_index new n)
      attained' n h (inl e) =
          let r = here_attained top.attained in
          let long = r.3 in
          let i = at.here in
          subst (λ k. (p : Path) × (y : ℕ) × (walk t k p ≡ Some y) × (length p + 2 ≡ slice_index new k)) (sym e) (r.0, r.1, r.2, omega (arith, long, i))
      attained' n h (inr apart) = let s = at.others n apart in let r = g.done.attained n (omega (arith, s, h)) in (r.0, r.1, r.2, r.3 ∙ sym s)

      all' : (n : ℕ) → slice_index new n ≡ 1 → (n ≡ x.node) ⊎ (n ≢ x.node) → (w : Open) × Has w front × (w.node ≡ n)
      all' n e (inl is) = absurd (let d = ap (slice_index new) is in let i = at.here in omega (arith, d, i, e))
      all' n e (inr apart) = go (g.all n (sym (at.others n apart) ∙ e))
        where
          go : (w : Open) × Has w (front ++ x ∷ []) × (w.node ≡ n) → (w : Open) × Has w front × (w.node ≡ n)
          go (w, h, is) = which (Has-either w front (x ∷ []) h)
            where
              which : Has w front ⊎ Has w (x ∷ []) → (v : Open) × Has v front × (v.node ≡ n)
              which (inl i) = (w, i, is)
              which (inr i) = absurd (apart (sym is ∙ ap (λ (v : Open). v.node) (Has-one w x i)))

      low' : (n : ℕ) → (n ≡ x.node) ⊎ (n ≢ x.node) → slice_index new n ≤ limit + 2
      low' n (inl e) = let d = ap (slice_index new) e in let i = at.here in omega (arith, d, i, within)
      low' n (inr a) = let s = at.others n a in let l = g.low n in omega (arith, s, l)

      root' : (0 ≡ x.node) ⊎ (0 ≢ x.node) → 0 < slice_index new 0
      root' (inl e) = let d = ap (slice_index new) e in let i = at.here in omega (arith, d, i)
      root' (inr a) = let s = at.others 0 a in let r = g.root in omega (arith, s, r)

      pub climbing_finishes : IsClimbing nodes limit (slice_index new) front
      climbing_finishes = record {
        done = record { lower = λ n f m h a. lower' n f m h a (same_or_other n x.node); attained = λ n h. attained' n h (same_or_other n x.node) };
        low = λ n. low' n (same_or_other n x.node);
        each = λ w h. open_on x.node (x.high + 2) old new at marked w (above_last t front x g.above w h).0 (g.each w (Has-left w front (x ∷ []) h));
        above = above_front t front x g.above;
        all = λ n e. all' n e (same_or_other n x.node);
        root = root' (same_or_other 0 x.node);
      }

    -- a node that is open is met again
    pub clash_open : (noted : ℕ → ℕ) (front : List Open) (x : Open) (to : ℕ) → IsClimbing nodes limit noted (front ++ x ∷ []) → IsNext nodes noted x.node to →
        noted to ≡ 1 → Answers (deep_of nodes) limit None
    clash_open noted front x to g next met s source w o is st consistent =
        cycle_clash s o (Told source) t w reached.0 round.0 to st.closes reached.1 round.1 round.2 consistent
      where
        x_open : IsOpen nodes noted x
        x_open = g.each x (Has-right x front (x ∷ []) here)

        found : (y : Open) × Has y (front ++ x ∷ []) × (y.node ≡ to)
        found = g.all to met

        reached : (p : Path) × (walk t 0 p ≡ Some to)
        reached = let r = (g.each found.0 found.1).reached in (r.0, r.1 ∙ ap Some found.2)

        arc : walk t x.node (next.0.feat ∷ []) ≡ Some to
        arc = walk_on nodes whole x.node x_open.node_in x_open.lives next.0 next.1 [] ∙ ap Some (ok.live_twice next.0.to ∙ sym next.2)

        some : (q : Path) (f : ℕ) → q ++ f ∷ [] ≢ []
        some q f e = absurd (let l = ap length e in let p = length_push q f in omega (arith, l, p))

        go : Has found.0 front ⊎ Has found.0 (x ∷ []) → (q : Path) × (q ≢ []) × (walk t to q ≡ Some to)
        go (inl i) =
            let r = (above_last t front x g.above found.0 i).1 in
            let from : walk t to r.0 ≡ Some x.node = subst (λ k. walk t k r.0 ≡ Some x.node) found.2 r.1 in
            (r.0 ++ next.0.feat ∷ [], some r.0 next.0.feat, walk-append t ok to x.node r.0 (next.0.feat ∷ []) from ∙ arc)
        go (inr i) =
            let same : x.node ≡ to = ap (λ (y : Open). y.node) (sym (Has-one found.0 x i)) ∙ found.2 in
            (next.0.feat ∷ [], some [] next.0.feat, subst (λ k. walk t k (next.0.feat ∷ []) ≡ Some to) same arc)

        round : (q : Path) × (q ≢ []) × (walk t to q ≡ Some to)
        round = go (Has-either found.0 front (x ∷ []) found.1)

    -- a path is too long
    pub clash_long : (noted : ℕ → ℕ) (front : List Open) (x : Open) → IsClimbing nodes limit noted (front ++ x ∷ []) → IsTop nodes noted x.node x.high →
        limit < x.high → Answers (deep_of nodes) limit None
    clash_long noted front x g top long s source w o is st consistent =
        walk_clash s o (Told source) t w (last.reached.0 ++ path.0) path.1 st.closes
        (walk-append t ok 0 x.node last.reached.0 path.0 last.reached.1 ∙ path.2)
        (let l = length-append last.reached.0 path.0 in let h = path.3 in omega (arith, l, h, long, is)) consistent
      where
        last : IsOpen nodes noted x
        last = g.each x (Has-right x front (x ∷ []) here)

        go : IsAttained nodes noted x.node x.high → (p : Path) × (y : ℕ) × (walk t x.node p ≡ Some y) × (length p ≡ x.high)
        go (inl e) = absurd (omega (arith, e, long))
        go (inr (c, has, at, some)) =
            let r = g.done.attained (t.live c.to) (omega (arith, at, some)) in
            let up = r.3 in
            (c.feat ∷ r.0, r.1, walk_on nodes whole x.node last.node_in last.lives c has r.0 ∙ r.2, omega (arith, at, up))

        path : (p : Path) × (y : ℕ) × (walk t x.node p ≡ Some y) × (length p ≡ x.high)
        path = go top.attained

    -- no node is open
    module _ (noted : ℕ → ℕ) (g : IsClimbing nodes limit noted []) where
      root_done : 2 ≤ noted 0
      root_done = go (cases_lt 1 (noted 0))
        where
          go : (1 < noted 0) ⊎ (noted 0 ≤ 1) → 2 ≤ noted 0
          go (inl h) = omega (arith, h)
          go (inr h) = let r = g.root in let x = g.all 0 (omega (arith, h, r)) in elim x.1 [ ]

      bound : (p : Path) (n y : ℕ) → t.live n ≡ n → 2 ≤ noted n → walk t n p ≡ Some y → length p + 2 ≤ noted n
      bound [] n y lives h e = h
      bound (f ∷ p) n y lives h e = go (t.arc (t.live n) f) refl e (λ m. bound p (t.live m) y (ok.live_twice m))
        where
          go : (o : Option ℕ) → t.arc (t.live n) f ≡ o → elim o as (λ _. Option ℕ) [ None ↦ None | Some m ↦ walk t m p ] ≡ Some y →
              ((m : ℕ) → 2 ≤ noted (t.live m) → walk t (t.live m) p ≡ Some y → length p + 2 ≤ noted (t.live m)) → length (f ∷ p) + 2 ≤ noted n
          go None is e' rest = absurd cc
          go (Some m) is e' rest =
              let d = g.done.lower n f m h (ap (λ z. t.arc z f) (sym lives) ∙ is) in
              let r = rest m d.0 (walk-live t ok m p ∙ e') in
              let q = d.1 in
              omega (arith, r, q)

      pub climbing_ends : BoundsPaths (table_of nodes) limit
      climbing_ends p n e =
          let b = bound p 0 n (root_lives (at_of nodes) (own_row nodes) nodes.cells nodes.merges nodes.size whole.stands) root_done e in
          let l = g.low 0 in
          omega (arith, b, l)

    -- the root is open alone
    pub climbing_begins : (old new : List ℕ) (z : Open) → 0 < nodes.size → ((n : ℕ) → slice_index old n ≡ 0) → Noted 0 1 old new → z.node ≡ 0 →
        ((noted : ℕ → ℕ) → IsPassing nodes noted z) → IsClimbing nodes limit (slice_index new) (z ∷ [])
    climbing_begins old new z filled none at z_is passing = record {
      done = record { lower = λ n f m h a. absurd (few n h); attained = λ n h. absurd (few n h) };
      low = λ n. let l = one n in omega (arith, l);
      each = λ x h. subst (IsOpen nodes (slice_index new)) (sym (Has-one x z h)) z_open;
      above = ((λ y h. elim h [ ]), tt);
      all = λ n e. (z, here, all n e (same_or_other n 0));
      root = let i = at.here in omega (arith, i);
    }
      where
        one_at : (n : ℕ) → (n ≡ 0) ⊎ (n ≢ 0) → slice_index new n ≤ 1
        one_at n (inl e) = let d = ap (slice_index new) e in let i = at.here in omega (arith, d, i)
        one_at n (inr a) = let s = at.others n a in let z = none n in omega (arith, s, z)

        one : (n : ℕ) → slice_index new n ≤ 1
        one n = one_at n (same_or_other n 0)

        few : (n : ℕ) → 2 ≤ slice_index new n → ⊥
        few n h = let l = one n in omega (arith, h, l)

        all : (n : ℕ) → slice_index new n ≡ 1 → (n ≡ 0) ⊎ (n ≢ 0) → z.node ≡ n
        all n e (inl is) = z_is ∙ sym is
        all n e (inr a) = absurd (let s = at.others n a in let z = none n in omega (arith, e, s, z))

        root_is : t.live 0 ≡ 0
        root_is = root_lives (at_of nodes) (own_row nodes) nodes.cells nodes.merges nodes.size whole.stands

        z_open : IsOpen nodes (slice_index new) z
        z_open = record {
          node_in = subst (λ n. n < nodes.size) (sym z_is) filled;
          lives = subst (λ n. t.live n ≡ n) (sym z_is) root_is;
          marked = ap (slice_index new) z_is ∙ at.here;
          passing = passing (slice_index new);
          reached = ([], ap Some (root_is ∙ sym z_is));
        }

-- the same of the lists in code
module _ (nodes : Nodes) (whole : IsWhole nodes) (limit : ℕ) where
  pub are_entering : (h h' : Heights) (x z : Open) (to : ℕ) (pushed : List Open) → nodes.size ≤ length h.notes →
      IsClimbing nodes limit (slice_index h.notes) (h.open_nodes.items ++ x ∷ []) → IsNext nodes (slice_index h.notes) x.node to → slice_index h.notes to ≢ 1 →
      Noted to 1 h.notes h'.notes → z.node ≡ to → ((noted : ℕ → ℕ) → IsPassing nodes noted z) → pushed ≡ h.open_nodes.items ++ x ∷ [] →
      h'.open_nodes.items ≡ pushed ++ z ∷ [] → AreClimbing nodes limit h'
  are_entering h h' x z to pushed room g next fresh at z_is passing first second = record {
    room = let s = at.size in omega (arith, room, s);
    climbing = subst (IsClimbing nodes limit (slice_index h'.notes)) (sym (second ∙ ap (λ l. l ++ z ∷ []) first))
        (climbing_enters nodes whole limit h.notes h'.notes h.open_nodes.items x z to g next fresh at z_is passing);
  }

  pub are_finishing : (h h' : Heights) (x : Open) → nodes.size ≤ length h.notes → IsClimbing nodes limit (slice_index h.notes) (h.open_nodes.items ++ x ∷ []) →
      IsTop nodes (slice_index h.notes) x.node x.high → x.high ≤ limit → Noted x.node (x.high + 2) h.notes h'.notes → h'.open_nodes.items ≡ h.open_nodes.items →
      AreClimbing nodes limit h'
  are_finishing h h' x room g top within at same = record {
    room = let s = at.size in omega (arith, room, s);
    climbing = subst (IsClimbing nodes limit (slice_index h'.notes)) (sym same)
        (climbing_finishes nodes whole limit h.notes h'.notes h.open_nodes.items x g top within at);
  }

  pub are_begun : (old : List ℕ) (h' : Heights) (z : Open) → 0 < nodes.size → nodes.size ≤ length old → ((n : ℕ) → slice_index old n ≡ 0) → Noted 0 1 old h'.notes →
      z.node ≡ 0 → ((noted : ℕ → ℕ) → IsPassing nodes noted z) → h'.open_nodes.items ≡ z ∷ [] → AreClimbing nodes limit h'
  are_begun old h' z filled room none at z_is passing is = record {
    room = let s = at.size in omega (arith, room, s);
    climbing = subst (IsClimbing nodes limit (slice_index h'.notes)) (sym is) (climbing_begins nodes whole limit old h'.notes z filled none at z_is passing);
  }
