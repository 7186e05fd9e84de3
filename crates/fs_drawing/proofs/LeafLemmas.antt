-- Nodes without arcs that are done with as soon as they are met.
use Rattle.std.proofs.Common.{ℕ, ◌≡◌, ◌≢◌, ◌≤◌, ◌<◌, ◌+◌, ◌⊎◌, inl, inr, Some, None, List, [], length, slice_index, refl, sym, ◌∙◌, ap, arith}
use Rattle.fs_model.specs.Claims.{Path, Has}
use Rattle.fs_model.specs.Table.{Table, walk}
use Rattle.fs_model.proofs.StepLemmas.{same_or_other}
use Rattle.fs_closing.specs.declared.cells.Cell.{Cell}
use Rattle.fs_closing.specs.declared.nodes.Nodes.{Nodes}
use Rattle.fs_closing.specs.Cells.{find_arc}
use Rattle.fs_closing.specs.NodeTable.{row_of, table_of}
use Rattle.fs_drawing.specs.declared.bounds.Open.{Open}
use Rattle.fs_drawing.specs.Noting.{Noted}
use Rattle.fs_drawing.specs.Inner.Climbing.{IsLower, IsAttained, arcs_left, IsPassing, AddsLeaves, IsOpen, IsClimbing}

module _ (nodes : Nodes) where
  abbrev t : Table
  t = table_of nodes

  pub leaves_none : (l : List ℕ) → AddsLeaves nodes l l
  leaves_none l = record { each = λ n. inl refl; size = refl }

  -- some leaves, and then some more
  module _ (a b c : List ℕ) (first : AddsLeaves nodes a b) (then : AddsLeaves nodes b c) where
    more : (n : ℕ) → (slice_index b n ≡ slice_index a n) ⊎ ((slice_index a n ≡ 0) × (slice_index b n ≡ 2) × (row_of nodes n ≡ [])) →
        (slice_index c n ≡ slice_index b n) ⊎ ((slice_index b n ≡ 0) × (slice_index c n ≡ 2) × (row_of nodes n ≡ [])) →
        (slice_index c n ≡ slice_index a n) ⊎ ((slice_index a n ≡ 0) × (slice_index c n ≡ 2) × (row_of nodes n ≡ []))
    more n (inl e) (inl f) = inl (f ∙ e)
    more n (inl e) (inr (zero, two, none)) = inr (sym e ∙ zero, two, none)
    more n (inr (zero, two, none)) (inl f) = inr (zero, f ∙ two, none)
    more n (inr (zero, two, none)) (inr (zero', two', none')) = inr (zero, two', none)

    pub leaves_more : AddsLeaves nodes a c
    leaves_more = record { each = λ n. more n (first.each n) (then.each n); size = then.size ∙ first.size }

  -- one leaf
  module _ (n : ℕ) (old new : List ℕ) (at : Noted n 2 old new) (zero : slice_index old n ≡ 0) (none : row_of nodes n ≡ []) where
    one : (k : ℕ) → (k ≡ n) ⊎ (k ≢ n) → (slice_index new k ≡ slice_index old k) ⊎ ((slice_index old k ≡ 0) × (slice_index new k ≡ 2) × (row_of nodes k ≡ []))
    one k (inl e) = inr (ap (slice_index old) e ∙ zero, ap (slice_index new) e ∙ at.here, ap (row_of nodes) e ∙ none)
    one k (inr apart) = inl (at.others k apart)

    pub leaves_one : AddsLeaves nodes old new
    leaves_one = record { each = λ k. one k (same_or_other k n); size = at.size }

  -- what is known of a visit stays so
  module _ (old new : List ℕ) (adds : AddsLeaves nodes old new) where
    met : (m : ℕ) → 1 ≤ slice_index old m →
        (slice_index new m ≡ slice_index old m) ⊎ ((slice_index old m ≡ 0) × (slice_index new m ≡ 2) × (row_of nodes m ≡ [])) → slice_index new m ≡ slice_index old m
    met m h (inl e) = e
    met m h (inr (zero, two, none)) = absurd (omega (arith, h, zero))

    stays : (m : ℕ) → 1 ≤ slice_index old m → slice_index new m ≡ slice_index old m
    stays m h = met m h (adds.each m)

    lower_with : (m high : ℕ) → IsLower (slice_index old) m high → IsLower (slice_index new) m high
    lower_with m high l = let a = l.0 in let b = l.1 in let s = stays m (omega (arith, a)) in (omega (arith, s, a), omega (arith, s, b))

    attained_with : (k high : ℕ) → IsAttained nodes (slice_index old) k high → IsAttained nodes (slice_index new) k high
    attained_with k high (inl e) = inl e
    attained_with k high (inr (c, has, is, some)) = inr (c, has, stays (t.live c.to) (omega (arith, is, some)) ∙ is, some)

    pub leaves_passing : (x : Open) → IsPassing nodes (slice_index old) x → IsPassing nodes (slice_index new) x
    leaves_passing x p = record { place_in = p.place_in; left = p.left; passed = λ c h. go c (p.passed c h); attained = attained_with x.node x.high p.attained }
      where
        go : (c : Cell) → Has c (arcs_left nodes x) ⊎ IsLower (slice_index old) (t.live c.to) x.high → Has c (arcs_left nodes x) ⊎ IsLower (slice_index new) (t.live c.to) x.high
        go c (inl h) = inl h
        go c (inr l) = inr (lower_with (t.live c.to) x.high l)

    open_with : (x : Open) → IsOpen nodes (slice_index old) x → IsOpen nodes (slice_index new) x
    open_with x o = record {
      node_in = o.node_in;
      lives = o.lives;
      marked = let m = o.marked in stays x.node (omega (arith, m)) ∙ m;
      passing = leaves_passing x o.passing;
      reached = o.reached;
    }

    module _ (limit : ℕ) (open_nodes : List Open) (g : IsClimbing nodes limit (slice_index old) open_nodes) where
      lower : (n f m : ℕ) → 2 ≤ slice_index new n → t.arc n f ≡ Some m →
          (slice_index new n ≡ slice_index old n) ⊎ ((slice_index old n ≡ 0) × (slice_index new n ≡ 2) × (row_of nodes n ≡ [])) →
          (2 ≤ slice_index new (t.live m)) × (slice_index new (t.live m) < slice_index new n)
      lower n f m h a (inl e) =
          let l = g.done.lower n f m (omega (arith, h, e)) a in
          let p = l.0 in
          let q = l.1 in
          let s = stays (t.live m) (omega (arith, p)) in
          (omega (arith, s, p), omega (arith, s, q, e))
      lower n f m h a (inr (zero, two, none)) = absurd (let no : Some m ≡ None = sym a ∙ ap (λ l. find_arc l f) none in cc)

      attained : (n : ℕ) → 2 ≤ slice_index new n →
          (slice_index new n ≡ slice_index old n) ⊎ ((slice_index old n ≡ 0) × (slice_index new n ≡ 2) × (row_of nodes n ≡ [])) →
          (p : Path) × (y : ℕ) × (walk t n p ≡ Some y) × (length p + 2 ≡ slice_index new n)
      attained n h (inl e) = let r = g.done.attained n (omega (arith, h, e)) in (r.0, r.1, r.2, r.3 ∙ sym e)
      attained n h (inr (zero, two, none)) = ([], t.live n, refl, sym two)

      low : (n : ℕ) → (slice_index new n ≡ slice_index old n) ⊎ ((slice_index old n ≡ 0) × (slice_index new n ≡ 2) × (row_of nodes n ≡ [])) → slice_index new n ≤ limit + 2
      low n (inl e) = let l = g.low n in omega (arith, l, e)
      low n (inr (zero, two, none)) = omega (arith, two)

      all : (n : ℕ) → slice_index new n ≡ 1 →
          (slice_index new n ≡ slice_index old n) ⊎ ((slice_index old n ≡ 0) × (slice_index new n ≡ 2) × (row_of nodes n ≡ [])) →
          (x : Open) × Has x open_nodes × (x.node ≡ n)
      all n is (inl e) = g.all n (sym e ∙ is)
      all n is (inr (zero, two, none)) = absurd (omega (arith, is, two))

      pub leaves_climbing : IsClimbing nodes limit (slice_index new) open_nodes
      leaves_climbing = record {
        done = record { lower = λ n f m h a. lower n f m h a (adds.each n); attained = λ n h. attained n h (adds.each n) };
        low = λ n. low n (adds.each n);
        each = λ x h. open_with x (g.each x h);
        above = g.above;
        all = λ n e. all n e (adds.each n);
        root = let r = g.root in let s = stays 0 (omega (arith, r)) in omega (arith, r, s);
      }
