-- Paths that are followed from the root, breadth first, and how many there are.
use Rattle.std.proofs.Common.{ℕ, zero, suc, ◌≡◌, ◌≢◌, ◌≤◌, ◌<◌, ◌+◌, ◌-◌, ◌⊎◌, inl, inr, Bool, true, false, not, Option, Some, None, List, [], ◌∷◌, ◌++◌, length, map, take, slice_index_or, append-nil, append_assoc, length-append, refl, sym, ◌∙◌, ap, subst, arith}
use Rattle.std.proofs.lemmas.Bool.{cases_lt}
use Rattle.std.proofs.Math.Seq.{take-append_seam}
use Rattle.std.proofs.lemmas.List.{append_cancel_left, get_or_append_left, get_or-append-add, get_or-map, length-map}
use Rattle.type_hierarchy.specs.Laws.{HasTypeLaws}
use Rattle.fs_model.specs.Claims.{Path, exists_at, same}
use Rattle.fs_graph.specs.declared.graph.GraphArc.{GraphArc}
use Rattle.fs_graph.specs.GraphMap.{arc_to}
use Rattle.fs_graph.specs.Visits.{targets_of}
use Rattle.fs_graph.proofs.RowLemmas.{arc_found}
use Rattle.forced_types.specs.declared.counting.End.{End}
use Rattle.forced_types.specs.declared.given.Given.{Given}
use Rattle.forced_types.specs.declared.nodes.Nodes.{Nodes}
use Rattle.forced_types.specs.Forced.{same_refl, same_exists}
use Rattle.forced_types.specs.Inner.Entries.{feat_at, AreFeatsApart, path_at}
use Rattle.forced_types.specs.Inner.Sound.{Forces, AreSound, most_of, size_of, entry_in, path_in}
use Rattle.forced_types.specs.Inner.Closed.{walk_in, IsFlat, IsClosed}
use Rattle.forced_types.specs.Inner.Counting.{ForcesMore, LeadMore, Counts, ClosedWithin, AreFollowed, end_at, ends_by}
use Rattle.forced_types.proofs.ArcLemmas.{arc_there}
use Rattle.forced_types.proofs.SoundLemmas.{entry_count}
use Rattle.forced_types.proofs.ClosedLemmas.{walk-up, walk-on, walk-ends, says}
use Rattle.forced_types.proofs.SearchLemmas.{first_arc}
use Rattle.forced_types.proofs.VerdictSteps.{walk_sound}
use Rattle.forced_types.proofs.DistinctLemmas.{no_more}

abbrev no_arc : GraphArc
no_arc = record { feat = record { 0 = 0 }; to = record { 0 = 0 } }

abbrev no_end : End
no_end = record { node = 0; size = 0 }

-- the paths that go on from one by the arcs of a row
abbrev further_by : Path → List GraphArc → List Path
further_by p arcs = map (λ a. p ++ a.feat.0 ∷ []) arcs

further_at : (p : Path) (arcs : List GraphArc) (k : ℕ) → k < length arcs → path_at (further_by p arcs) k ≡ p ++ feat_at arcs k ∷ []
further_at p arcs k h =
    get_or-map (λ (a : GraphArc). p ++ a.feat.0 ∷ []) arcs k no_arc [] h
    ∙ ap (λ f. p ++ f ∷ []) (sym (get_or-map (λ (a : GraphArc). a.feat.0) arcs k no_arc 0 h))

-- the end of the arc at a place of a row
end_by : (t : Nodes) (size : ℕ) (arcs : List GraphArc) (k : ℕ) → k < length arcs →
    end_at (ends_by t size arcs) k ≡ record { node = (entry_in t (slice_index_or (targets_of arcs) k 0)).up; size = size }
end_by t size arcs k h =
    get_or-map (λ (a : GraphArc). at a.to.0) arcs k no_arc no_end h
    ∙ ap at (sym (get_or-map (λ (a : GraphArc). a.to.0) arcs k no_arc 0 h))
  where
    at : ℕ → End
    at n = record { node = (entry_in t n).up; size = size }

-- what two paths of one feature more go on from
one_left : (xs ys : List ℕ) (a b : ℕ) → xs ++ a ∷ [] ≡ ys ++ b ∷ [] → xs ≡ ys
one_left xs ys a b e =
    let size : length xs ≡ length ys = omega (arith, ap length e, length-append xs (a ∷ []), length-append ys (b ∷ [])) in
    sym (take-append_seam xs (a ∷ [])) ∙ ap (take (length xs)) e ∙ ap (λ k. take k (ys ++ b ∷ [])) size ∙ take-append_seam ys (b ∷ [])

-- a walk of one arc from a live node
walk_step : (t : Nodes) (n f m : ℕ) → (entry_in t n).up ≡ n → arc_to (entry_in t n).arcs f ≡ Some m → walk_in t n (f ∷ []) ≡ Some (entry_in t m).up
walk_step t n f m live is =
    ap (λ x. elim (arc_to (entry_in t x).arcs f) as (λ _. Option ℕ) [ None ↦ None | Some m ↦ walk_in t m [] ]) live
    ∙ ap (λ o. elim o as (λ _. Option ℕ) [ None ↦ None | Some m ↦ walk_in t m [] ]) is

abbrev root_end : Nodes → End
root_end t = record { node = (entry_in t 0).up; size = 0 }

-- the root alone
pub begun : (g : Given) (t : Nodes) (ends : List End) → ends ≡ root_end t ∷ [] → AreFollowed g t ends 0
begun g t ends is = subst (λ l. AreFollowed g t l 0) (sym is) (record {
  paths = [] ∷ [];
  even = refl;
  some = omega arith;
  sizes = sizes;
  short = short;
  lead = lead;
  apart = λ i j a b. absurd (omega (arith, a, b));
  root = refl;
  parents = λ i a b. absurd (omega (arith, a, b));
  further = λ j f m a. absurd (omega (arith, a));
})
  where
    sizes : (i : ℕ) → i < length (root_end t ∷ []) → (end_at (root_end t ∷ []) i).size ≡ length (path_at ([] ∷ []) i)
    sizes zero h = refl
    sizes (suc i) h = absurd (omega (arith, h))

    short : (i : ℕ) → i < length (root_end t ∷ []) → length (path_at ([] ∷ []) i) ≤ most_of g
    short zero h = omega arith
    short (suc i) h = absurd (omega (arith, h))

    lead : (i : ℕ) → i < length (root_end t ∷ []) → walk_in t 0 (path_at ([] ∷ []) i) ≡ Some (end_at (root_end t ∷ []) i).node
    lead zero h = refl
    lead (suc i) h = absurd (omega (arith, h))

pub filled : (g : Given) (t : Nodes) → AreSound g t → 0 < size_of t
filled g t sound = omega (arith, entry_count t, sound.entries.filled)

module _ (g : Given) (t : Nodes) (flat : IsFlat t) (some : 0 < size_of t) where
  -- the end of a path that was found is a live node
  pub live_end : (ends : List End) (done i : ℕ) → AreFollowed g t ends done → i < length ends →
      ((end_at ends i).node < size_of t) × ((entry_in t (end_at ends i).node).up ≡ (end_at ends i).node)
  live_end ends done i x h = walk-ends t flat 0 (end_at ends i).node (path_at x.paths i) some (x.lead i h)

  -- the paths from the end of the first one of which the further ones weren't looked for yet
  module _ (ends ends' : List End) (at : ℕ) (x : AreFollowed g t ends at) (h : at < length ends) (rows : AreFeatsApart (entry_in t (end_at ends at).node).arcs)
      (room : (end_at ends at).size < most_of g) (is : ends' ≡ ends ++ ends_by t ((end_at ends at).size + 1) (entry_in t (end_at ends at).node).arcs) where
    abbrev p : Path
    p = path_at x.paths at

    abbrev n : ℕ
    n = (end_at ends at).node

    abbrev arcs : List GraphArc
    arcs = (entry_in t (end_at ends at).node).arcs

    abbrev all : List Path
    all = x.paths ++ further_by (path_at x.paths at) (entry_in t (end_at ends at).node).arcs

    longer : length ends' ≡ length ends + length arcs
    longer =
        ap length is ∙ length-append ends (ends_by t ((end_at ends at).size + 1) arcs)
        ∙ ap (λ k. length ends + k) (length-map arcs (λ (a : GraphArc). record { node = (entry_in t a.to.0).up; size = (end_at ends at).size + 1 }))

    even : length all ≡ length ends'
    even =
        let a = length-append x.paths (further_by p arcs) in
        let b = length-map arcs (λ (a : GraphArc). p ++ a.feat.0 ∷ []) in
        omega (arith, x.even, longer, a, b)

    old : (i : ℕ) → i < length ends → path_at all i ≡ path_at x.paths i
    old i b = get_or_append_left x.paths (further_by p arcs) [] i (omega (arith, x.even, b))

    new : (k : ℕ) → k < length arcs → path_at all (length ends + k) ≡ p ++ feat_at arcs k ∷ []
    new k b = ap (λ i. path_at all (i + k)) (sym x.even) ∙ get_or-append-add x.paths (further_by p arcs) k [] ∙ further_at p arcs k b

    old_end : (i : ℕ) → i < length ends → end_at ends' i ≡ end_at ends i
    old_end i b = ap (λ l. end_at l i) is ∙ get_or_append_left ends (ends_by t ((end_at ends at).size + 1) arcs) no_end i b

    new_end : (k : ℕ) → k < length arcs →
        end_at ends' (length ends + k) ≡ record { node = (entry_in t (slice_index_or (targets_of arcs) k 0)).up; size = (end_at ends at).size + 1 }
    new_end k b =
        ap (λ l. end_at l (length ends + k)) is ∙ get_or-append-add ends (ends_by t ((end_at ends at).size + 1) arcs) k no_end
        ∙ end_by t ((end_at ends at).size + 1) arcs k b

    split : (i : ℕ) → length ends ≤ i → length ends + (i - length ends) ≡ i
    split i b = omega (arith, b)

    inside : (i : ℕ) → length ends ≤ i → i < length ends' → i - length ends < length arcs
    inside i a b = omega (arith, a, b, longer)

    new_at : (i : ℕ) → length ends ≤ i → i < length ends' → path_at all i ≡ p ++ feat_at arcs (i - length ends) ∷ []
    new_at i a b = ap (λ j. path_at all j) (sym (split i a)) ∙ new (i - length ends) (inside i a b)

    one_more : (i : ℕ) → length ends ≤ i → i < length ends' → length (path_at all i) ≡ (end_at ends at).size + 1
    one_more i a b =
        let more = length-append p (feat_at arcs (i - length ends) ∷ []) in
        omega (arith, ap length (new_at i a b), more, x.sizes at h)

    sizes : (i : ℕ) → i < length ends' → (i < length ends) ⊎ (length ends ≤ i) → (end_at ends' i).size ≡ length (path_at all i)
    sizes i b (inl a) = ap (λ (e : End). e.size) (old_end i a) ∙ x.sizes i a ∙ ap length (sym (old i a))
    sizes i b (inr a) =
        ap (λ j. (end_at ends' j).size) (sym (split i a)) ∙ ap (λ (e : End). e.size) (new_end (i - length ends) (inside i a b)) ∙ sym (one_more i a b)

    short : (i : ℕ) → i < length ends' → (i < length ends) ⊎ (length ends ≤ i) → length (path_at all i) ≤ most_of g
    short i b (inl a) = omega (arith, ap length (old i a), x.short i a)
    short i b (inr a) = omega (arith, one_more i a b, room)

    lead_new : (k : ℕ) → k < length arcs → walk_in t 0 (path_at all (length ends + k)) ≡ Some (end_at ends' (length ends + k)).node
    lead_new k b =
        ap (walk_in t 0) (new k b)
        ∙ walk-on t flat 0 n p (feat_at arcs k ∷ []) some (x.lead at h)
        ∙ walk_step t n (feat_at arcs k) (slice_index_or (targets_of arcs) k 0) (live_end ends at at x h).1 (arc_there arcs k rows b)
        ∙ ap (λ (e : End). Some e.node) (sym (new_end k b))

    lead : (i : ℕ) → i < length ends' → (i < length ends) ⊎ (length ends ≤ i) → walk_in t 0 (path_at all i) ≡ Some (end_at ends' i).node
    lead i b (inl a) = ap (walk_in t 0) (old i a) ∙ x.lead i a ∙ ap (λ (e : End). Some e.node) (sym (old_end i a))
    lead i b (inr a) = subst (λ j. walk_in t 0 (path_at all j) ≡ Some (end_at ends' j).node) (split i a) (lead_new (i - length ends) (inside i a b))

    -- no path that was found goes one arc on from that one
    mixed : (i f : ℕ) → i < length ends → path_at x.paths i ≡ p ++ f ∷ [] → (0 < i) ⊎ (i ≤ 0) → ⊥
    mixed i f b e (inl a) =
        let r = x.parents i a b in
        x.apart r.0 at r.2 (omega (arith, x.even, h)) (one_left (path_at x.paths r.0) p r.1 f (sym r.3 ∙ e))
    mixed i f b e (inr a) =
        let z : i ≡ 0 = omega (arith, a) in
        let size = ap length (sym x.root ∙ ap (λ j. path_at x.paths j) (sym z) ∙ e) in
        omega (arith, size, length-append p (f ∷ []))

    apart : (i j : ℕ) → i < j → j < length all → (i < length ends) ⊎ (length ends ≤ i) → (j < length ends) ⊎ (length ends ≤ j) → path_at all i ≢ path_at all j
    apart i j a b (inl c) (inl d) e = x.apart i j a (omega (arith, x.even, d)) (sym (old i c) ∙ e ∙ old j d)
    apart i j a b (inl c) (inr d) e = mixed i (feat_at arcs (j - length ends)) c (sym (old i c) ∙ e ∙ new_at j d (omega (arith, b, even))) (cases_lt 0 i)
    apart i j a b (inr c) (inl d) e = omega (arith, a, c, d)
    apart i j a b (inr c) (inr d) e =
        let j_in : j < length ends' = omega (arith, b, even) in
        let i_in : i < length ends' = omega (arith, a, j_in) in
        let tails : feat_at arcs (i - length ends) ∷ [] ≡ feat_at arcs (j - length ends) ∷ [] =
        append_cancel_left p (feat_at arcs (i - length ends) ∷ []) (feat_at arcs (j - length ends) ∷ []) (sym (new_at i c i_in) ∙ e ∙ new_at j d j_in) in
        let same_feat : feat_at arcs (i - length ends) ≡ feat_at arcs (j - length ends) = cc in
        rows (i - length ends) (j - length ends) (omega (arith, a, c, d)) (inside j d j_in) same_feat

    parents : (i : ℕ) → 0 < i → i < length ends' → (i < length ends) ⊎ (length ends ≤ i) →
        (j : ℕ) × (f : ℕ) × (j < at + 1) × (path_at all i ≡ path_at all j ++ f ∷ [])
    parents i a b (inl c) =
        let r = x.parents i a c in
        let before = r.2 in
        (r.0, r.1, omega (arith, before), old i c ∙ r.3 ∙ ap (λ q. q ++ r.1 ∷ []) (sym (old r.0 (omega (arith, before, h)))))
    parents i a b (inr c) = (
      at,
      feat_at arcs (i - length ends),
      omega arith,
      new_at i c b ∙ ap (λ q. q ++ feat_at arcs (i - length ends) ∷ []) (sym (old at h)),
    )

    further_here : (f m : ℕ) → arc_to (entry_in t (end_at ends' at).node).arcs f ≡ Some m → (i : ℕ) × (i < length ends') × (path_at all i ≡ path_at all at ++ f ∷ [])
    further_here f m e =
        let e' : arc_to arcs f ≡ Some m = ap (λ (y : End). arc_to (entry_in t y.node).arcs f) (sym (old_end at h)) ∙ e in
        let r = arc_found arcs f m e' in
        let in' = r.1 in (
          length ends + r.0,
          omega (arith, longer, in'),
          new r.0 r.1 ∙ ap (λ z. p ++ z ∷ []) r.2 ∙ ap (λ q. q ++ f ∷ []) (sym (old at h)),
        )

    further : (j f m : ℕ) → j < at + 1 → j < length ends' → length (path_at all j) < most_of g → arc_to (entry_in t (end_at ends' j).node).arcs f ≡ Some m →
        (j < at) ⊎ (at ≤ j) → (i : ℕ) × (i < length ends') × (path_at all i ≡ path_at all j ++ f ∷ [])
    further j f m a b l e (inl c) =
        let j_in : j < length ends = omega (arith, c, h) in
        let r = x.further j f m c j_in (omega (arith, l, ap length (old j j_in))) (ap (λ (y : End). arc_to (entry_in t y.node).arcs f) (sym (old_end j j_in)) ∙ e) in
        let in' = r.1 in
        (r.0, omega (arith, longer, in'), old r.0 r.1 ∙ r.2 ∙ ap (λ q. q ++ f ∷ []) (sym (old j j_in)))
    further j f m a b l e (inr c) =
        let z : at ≡ j = omega (arith, a, c) in
        let e' = subst (λ k. arc_to (entry_in t (end_at ends' k).node).arcs f ≡ Some m) (sym z) e in
        subst (λ k. (i : ℕ) × (i < length ends') × (path_at all i ≡ path_at all k ++ f ∷ [])) z (further_here f m e')

    pub goes_on : AreFollowed g t ends' (at + 1)
    goes_on = record {
      paths = all;
      even = even;
      some = omega (arith, longer, x.some);
      sizes = λ i b. sizes i b (cases_lt i (length ends));
      short = λ i b. short i b (cases_lt i (length ends));
      lead = λ i b. lead i b (cases_lt i (length ends));
      apart = λ i j a b. apart i j a b (cases_lt i (length ends)) (cases_lt j (length ends));
      root = old 0 x.some ∙ x.root;
      parents = λ i a b. parents i a b (cases_lt i (length ends));
      further = λ j f m a b l e. further j f m a b l e (cases_lt j at);
    }

  -- the first one of which the further ones weren't looked for yet goes no further
  pub stays : (ends ends' : List End) (at : ℕ) (x : AreFollowed g t ends at) → at < length ends → most_of g ≤ (end_at ends at).size → ends' ≡ ends → AreFollowed g t ends' (at + 1)
  stays ends ends' at x h full is = subst (λ l. AreFollowed g t l (at + 1)) (sym is) (record {
    paths = x.paths;
    even = x.even;
    some = x.some;
    sizes = x.sizes;
    short = x.short;
    lead = x.lead;
    apart = x.apart;
    root = x.root;
    parents = λ i a b. let r = x.parents i a b in (r.0, r.1, (let before = r.2 in omega (arith, before)), r.3);
    further = λ j f m a b l e. further j f m a b l e (cases_lt j at);
  })
    where
      further : (j f m : ℕ) → j < at + 1 → j < length ends → length (path_at x.paths j) < most_of g → arc_to (entry_in t (end_at ends j).node).arcs f ≡ Some m →
          (j < at) ⊎ (at ≤ j) → (i : ℕ) × (i < length ends) × (path_at x.paths i ≡ path_at x.paths j ++ f ∷ [])
      further j f m a b l e (inl c) = x.further j f m c b l e
      further j f m a b l e (inr c) =
          let z : j ≡ at = omega (arith, a, c) in
          let size = x.sizes at h in
          absurd (omega (arith, l, full, size, ap (λ k. length (path_at x.paths k)) z))

  -- where the further ones of the next one were looked for
  pub went_on : (ends ends' : List End) (at : ℕ) → AreSound g t → AreFollowed g t ends at → at < length ends →
      ((end_at ends at).size < most_of g → ends' ≡ ends ++ ends_by t ((end_at ends at).size + 1) (entry_in t (end_at ends at).node).arcs) →
      (most_of g ≤ (end_at ends at).size → ends' ≡ ends) → AreFollowed g t ends' (at + 1)
  went_on ends ends' at sound x h on stay = go (cases_lt (end_at ends at).size (most_of g))
    where
      go : ((end_at ends at).size < most_of g) ⊎ (most_of g ≤ (end_at ends at).size) → AreFollowed g t ends' (at + 1)
      go (inl room) =
          let inside = (live_end ends at at x h).0 in
          goes_on ends ends' at x h (sound.entries.each (end_at ends at).node (omega (arith, inside, entry_count t))).arcs_apart room (on room)
      go (inr full) = stays ends ends' at x h full (stay full)

  -- where all were followed, each path was found
  all_found : (ends : List End) (done : ℕ) (x : AreFollowed g t ends done) → length ends ≤ done → (q p : Path) (i n : ℕ) → i < length ends → path_at x.paths i ≡ q →
      length (q ++ p) ≤ most_of g → walk_in t (end_at ends i).node p ≡ Some n → (k : ℕ) × (k < length ends) × (path_at x.paths k ≡ q ++ p)
  all_found ends done x all q [] i n h is l e = (i, h, is ∙ sym (append-nil q))
  all_found ends done x all q (f ∷ p) i n h is l e =
      let live = live_end ends done i x h in
      let a = first_arc g t flat (end_at ends i).node n f p live.0 live.1 e in
      let q_size = length-append q (f ∷ p) in
      let r = x.further i f a.0 (omega (arith, h, all)) h (omega (arith, l, q_size, ap length is)) a.1 in
      let found = x.lead r.0 r.1 in
      let step : walk_in t 0 (path_at x.paths r.0) ≡ Some (entry_in t a.0).up =
      ap (walk_in t 0) r.2
      ∙ walk-on t flat 0 (end_at ends i).node (path_at x.paths i) (f ∷ []) some (x.lead i h)
      ∙ walk_step t (end_at ends i).node f a.0 live.1 a.1 in
      let both : Some (end_at ends r.0).node ≡ Some (entry_in t a.0).up = sym found ∙ step in
      let end : (end_at ends r.0).node ≡ (entry_in t a.0).up = cc in
      let regrouped = append_assoc q (f ∷ []) p in
      let k = all_found ends done x all (q ++ f ∷ []) p r.0 n r.1 (r.2 ∙ ap (λ z. z ++ f ∷ []) is) (omega (arith, l, ap length regrouped))
      (ap (λ z. walk_in t z p) end ∙ a.3) in
      (k.0, k.1, k.2 ∙ regrouped)

  -- where all were followed, no more lead from the root than were found
  pub counts_few : (ends : List End) (done limit : ℕ) → AreFollowed g t ends done → length ends ≤ done → length ends ≤ limit + 1 → Counts g t limit true
  counts_few ends done limit x all few m =
      let most = no_more m.paths x.paths m.apart found in
      omega (arith, most, m.more, x.even, few)
    where
      root_node : (end_at ends 0).node ≡ (entry_in t 0).up
      root_node =
          let both : Some (entry_in t 0).up ≡ Some (end_at ends 0).node = ap (walk_in t 0) (sym x.root) ∙ x.lead 0 x.some in
          cc

      found : (i : ℕ) → i < length m.paths → (k : ℕ) × (k < length x.paths) × (path_at x.paths k ≡ path_at m.paths i)
      found i h =
          let r = m.lead i h in
          let k = all_found ends done x all [] (path_at m.paths i) 0 r.0 x.some x.root r.2
          (ap (λ z. walk_in t z (path_at m.paths i)) root_node ∙ walk-up t flat 0 (path_at m.paths i) some ∙ r.1) in
          let in' = k.1 in
          (k.0, omega (arith, in', x.even), k.2)

pub counts_many : (g : Given) (t : Nodes) (ends : List End) (done limit : ℕ) → AreFollowed g t ends done → limit + 1 < length ends → Counts g t limit false
counts_many g t ends done limit x many = record {
  paths = x.paths;
  apart = x.apart;
  lead = λ i h. let i_in : i < length ends = omega (arith, h, x.even) in ((end_at ends i).node, x.lead i i_in, x.short i i_in);
  more = omega (arith, many, x.even);
}

-- paths that lead from the root are forced
pub forces_more : (g : Given) (t : Nodes) (limit : ℕ) → AreSound g t → IsFlat t → LeadMore g t limit → ForcesMore g limit
forces_more g t limit sound flat m = record {
  paths = m.paths;
  apart = m.apart;
  forced = λ i h. let r = m.lead i h in same_exists _ _ (walk_sound g t sound flat (path_at m.paths i) [] 0 r.0 (filled g t sound) begins r.2 r.1);
  more = m.more;
}
  where
    begins : Forces g (same [] (path_in t 0))
    begins = subst (λ x. Forces g (same x (path_in t 0))) sound.entries.root (same_refl _ (sound.entries.each 0 sound.entries.filled).there)

pub shown_more : (g : Given) (t : Nodes) (limit : ℕ) (few : Bool) → AreSound g t → IsFlat t → Counts g t limit few → not few ≡ true → ForcesMore g limit
shown_more g t limit true sound flat counts more = absurd cc
shown_more g t limit false sound flat counts more = forces_more g t limit sound flat counts

-- those of closed nodes are all that are forced
pub closed_counts : (g : Given) (t : Nodes) (limit : ℕ) (few : Bool) → AreSound g t → IsClosed g t → HasTypeLaws g.system.now.types → Counts g t limit few → ClosedWithin g limit t few
closed_counts g t limit true sound closed laws counts = (closed, none)
  where
    none : ForcesMore g limit → ⊥
    none m = counts (record {
      paths = m.paths;
      apart = m.apart;
      lead = λ i h. let x = says g t closed laws (exists_at (path_at m.paths i)) (m.forced i h) in (x.1.0, x.1.1, x.0);
      more = m.more;
    })
closed_counts g t limit false sound closed laws counts = forces_more g t limit sound closed.flat counts
