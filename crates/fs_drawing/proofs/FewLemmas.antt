-- Paths that are followed breadth first, and how many there are.
use Rattle.std.proofs.Common.{ℕ, zero, suc, ◌≡◌, ◌≢◌, ◌≤◌, ◌<◌, ◌+◌, ◌-◌, ◌⊎◌, inl, inr, Bool, true, false, Option, Some, None, List, [], ◌∷◌, ◌++◌, length, map, get_or, slice_index, slice_index_or, append-nil, append_assoc, length-append, refl, sym, ◌∙◌, ap, subst, arith}
use Rattle.std.specs.Cmp.{IsEquivalence}
use Rattle.std.specs.List.{IsDistinct as IsDistinctBy, AllByRecursion, list_any}
use Rattle.std.specs.Str.{bytes_eq}
use Rattle.std.proofs.lemmas.Bool.{cases_lt}
use Rattle.std.proofs.lemmas.List.{get_or_append_left, get_or-append-add, get_or-map, length-map, map-append}
use Rattle.std.proofs.lemmas.Map.Made.{length-le_from_is_member}
use Rattle.std.proofs.lemmas.Slice.Eq.{bytes_eq-Decides}
use Rattle.type_hierarchy.specs.declared.types.Ty.{Ty}
use Rattle.type_hierarchy.proofs.ListLemmas.{any_at, any_index}
use Rattle.fs_model.specs.Claims.{Path}
use Rattle.fs_model.specs.Table.{Table, IsTable, walk}
use Rattle.fs_model.proofs.TableLemmas.{walk-append, walk-step, walk_ends}
use Rattle.fs_graph.specs.declared.graph.GraphArc.{GraphArc}
use Rattle.fs_graph.specs.Facts.{path_of}
use Rattle.fs_graph.specs.GraphMap.{GraphMap, table_of, arcs_at, arc_to, Rises}
use Rattle.fs_graph.specs.Inside.{row, graph_map}
use Rattle.fs_graph.specs.Orders.{ArePlan}
use Rattle.fs_graph.specs.Visits.{feats_of, targets_of}
use Rattle.fs_graph.proofs.RowLemmas.{row_at, arc_found, arc_there}
use Rattle.fs_closing.proofs.BesideLemmas.{no_arc}
use Rattle.fs_drawing.specs.declared.draw.Off.{Off}
use Rattle.fs_drawing.specs.Drawing.{leaves_of, IsPicture}
use Rattle.fs_drawing.specs.Counting.{AreApart, LeadsMore, Counts, HaveRow, AreFollowed}
use Rattle.fs_drawing.proofs.DrawLemmas.{root_shown, path_whole}

-- the graph of a plan is a table
pub plan_table : (types : List Ty) (starts : List ℕ) (arcs : List GraphArc) → ArePlan types starts arcs → IsTable (table_of (graph_map types starts arcs))
plan_table types starts arcs plan = record { live_in = λ n h. h; live_twice = λ n. refl; arc_in = arc_in }
  where
    arc_in : (n f m : ℕ) → n < length (map (λ (t : Ty). t.0) types) → arc_to (arcs_at (graph_map types starts arcs) n) f ≡ Some m →
        m < length (map (λ (t : Ty). t.0) types)
    arc_in n f m h e =
        let size = length-map types (λ (t : Ty). t.0) in
        let inside : n < length types = omega (arith, size, h) in
        let r = arc_found (row starts arcs n) f m (ap (λ l. arc_to l f) (sym (row_at types starts arcs n inside)) ∙ e) in
        let low : slice_index (targets_of (row starts arcs n)) r.0 < length types = plan.to_in n r.0 inside r.1 in
        subst (λ z. z < length (map (λ (t : Ty). t.0) types)) r.3 (omega (arith, size, low))

-- the paths that go on from one by the arcs of a row
abbrev further_by : Path → List GraphArc → List Path
further_by p arcs = map (λ a. p ++ a.feat.0 ∷ []) arcs

further_at : (p : Path) (arcs : List GraphArc) (k : ℕ) → k < length arcs → slice_index_or (further_by p arcs) k [] ≡ p ++ slice_index_or (feats_of arcs) k 0 ∷ []
further_at p arcs k h =
    get_or-map (λ (a : GraphArc). p ++ a.feat.0 ∷ []) arcs k no_arc [] h
    ∙ ap (λ f. p ++ f ∷ []) (sym (get_or-map (λ (a : GraphArc). a.feat.0) arcs k no_arc 0 h))

-- two paths of one feature more
last_left : (xs ys : List ℕ) (a b : ℕ) → xs ++ a ∷ [] ≡ ys ++ b ∷ [] → xs ≡ ys
last_left [] [] a b e = refl
last_left [] (y ∷ ys) a b e = absurd (let l = ap length e in let n = length-append ys (b ∷ []) in omega (arith, l, n))
last_left (x ∷ xs) [] a b e = absurd (let l = ap length e in let n = length-append xs (a ∷ []) in omega (arith, l, n))
last_left (x ∷ xs) (y ∷ ys) a b e =
    let head : x ≡ y = cc in
    let tail : xs ++ a ∷ [] ≡ ys ++ b ∷ [] = cc in
    ap (λ z. z ∷ xs) head ∙ ap (λ l. y ∷ l) (last_left xs ys a b tail)

last_right : (xs ys : List ℕ) (a b : ℕ) → xs ++ a ∷ [] ≡ ys ++ b ∷ [] → a ≡ b
last_right [] [] a b e = cc
last_right [] (y ∷ ys) a b e = absurd (let l = ap length e in let n = length-append ys (b ∷ []) in omega (arith, l, n))
last_right (x ∷ xs) [] a b e = absurd (let l = ap length e in let n = length-append xs (a ∷ []) in omega (arith, l, n))
last_right (x ∷ xs) (y ∷ ys) a b e = let tail : xs ++ a ∷ [] ≡ ys ++ b ∷ [] = cc in last_right xs ys a b tail

no_last : (xs : List ℕ) (a : ℕ) → [] ≡ xs ++ a ∷ [] → ⊥
no_last xs a e = let l = ap length e in let n = length-append xs (a ∷ []) in omega (arith, l, n)

-- the root alone
pub begun : (g : GraphMap) (ends : List ℕ) → ends ≡ 0 ∷ [] → AreFollowed g ends 0
begun g ends is = subst (λ l. AreFollowed g l 0) (sym is) (record {
  paths = [] ∷ [];
  even = refl;
  some = omega arith;
  lead = lead;
  apart = λ i j a b. absurd (omega (arith, a, b));
  root = refl;
  parents = λ i a b. absurd (omega (arith, a, b));
  further = λ j f m a. absurd (omega (arith, a));
})
  where
    lead : (i : ℕ) → i < length {A = ℕ} (0 ∷ []) → walk (table_of g) 0 (slice_index_or ([] ∷ []) i []) ≡ Some (slice_index (0 ∷ []) i)
    lead zero h = refl
    lead (suc i) h = absurd (omega (arith, h))

-- the paths from the end of the first one of which the further ones weren't looked for yet
module _ (g : GraphMap) (ok : IsTable (table_of g)) (ends ends' : List ℕ) (at : ℕ) (arcs : List GraphArc) (x : AreFollowed g ends at) (h : at < length ends)
    (row_is : arcs_at g (slice_index ends at) ≡ arcs) (rises : Rises arcs) (is : ends' ≡ ends ++ targets_of arcs) where
  abbrev p : Path
  p = slice_index_or x.paths at []

  abbrev all : List Path
  all = x.paths ++ further_by (slice_index_or x.paths at []) arcs

  longer : length ends' ≡ length ends + length arcs
  longer = ap length is ∙ length-append ends (targets_of arcs) ∙ ap (λ k. length ends + k) (length-map arcs (λ a. a.to.0))

  even : length all ≡ length ends'
  even =
      let a = length-append x.paths (further_by p arcs) in
      let b = length-map arcs (λ (a : GraphArc). p ++ a.feat.0 ∷ []) in
      omega (arith, x.even, longer, a, b)

  old : (i : ℕ) → i < length ends → slice_index_or all i [] ≡ slice_index_or x.paths i []
  old i b = get_or_append_left x.paths (further_by p arcs) [] i (omega (arith, x.even, b))

  new : (k : ℕ) → k < length arcs → slice_index_or all (length ends + k) [] ≡ p ++ slice_index_or (feats_of arcs) k 0 ∷ []
  new k b = ap (λ i. slice_index_or all (i + k) []) (sym x.even) ∙ get_or-append-add x.paths (further_by p arcs) k [] ∙ further_at p arcs k b

  old_end : (i : ℕ) → i < length ends → slice_index ends' i ≡ slice_index ends i
  old_end i b = ap (λ l. slice_index l i) is ∙ get_or_append_left ends (targets_of arcs) 0 i b

  new_end : (k : ℕ) → slice_index ends' (length ends + k) ≡ slice_index (targets_of arcs) k
  new_end k = ap (λ l. slice_index l (length ends + k)) is ∙ get_or-append-add ends (targets_of arcs) k 0

  split : (i : ℕ) → length ends ≤ i → length ends + (i - length ends) ≡ i
  split i b = omega (arith, b)

  inside : (i : ℕ) → length ends ≤ i → i < length ends' → i - length ends < length arcs
  inside i a b = omega (arith, a, b, longer)

  new_at : (i : ℕ) → length ends ≤ i → i < length ends' → slice_index_or all i [] ≡ p ++ slice_index_or (feats_of arcs) (i - length ends) 0 ∷ []
  new_at i a b = ap (λ j. slice_index_or all j []) (sym (split i a)) ∙ new (i - length ends) (inside i a b)

  lead_new : (k : ℕ) → k < length arcs → walk (table_of g) 0 (slice_index_or all (length ends + k) []) ≡ Some (slice_index ends' (length ends + k))
  lead_new k b =
      let there : arc_to (arcs_at g (slice_index ends at)) (slice_index_or (feats_of arcs) k 0) ≡ Some (slice_index_or (targets_of arcs) k 0) =
      ap (λ l. arc_to l (slice_index_or (feats_of arcs) k 0)) row_is ∙ arc_there arcs k rises b in
      ap (walk (table_of g) 0) (new k b)
      ∙ walk-append (table_of g) ok 0 (slice_index ends at) p (slice_index_or (feats_of arcs) k 0 ∷ []) (x.lead at h)
      ∙ walk-step (table_of g) (slice_index ends at) (slice_index_or (targets_of arcs) k 0) (slice_index_or (feats_of arcs) k 0) [] there
      ∙ ap Some (sym (new_end k))

  lead : (i : ℕ) → i < length ends' → (i < length ends) ⊎ (length ends ≤ i) → walk (table_of g) 0 (slice_index_or all i []) ≡ Some (slice_index ends' i)
  lead i b (inl a) = ap (walk (table_of g) 0) (old i a) ∙ x.lead i a ∙ ap Some (sym (old_end i a))
  lead i b (inr a) =
      subst (λ j. walk (table_of g) 0 (slice_index_or all j []) ≡ Some (slice_index ends' j)) (split i a) (lead_new (i - length ends) (inside i a b))

  -- no path that was found goes one arc on from that one
  mixed : (i f : ℕ) → i < length ends → slice_index_or x.paths i [] ≡ p ++ f ∷ [] → (0 < i) ⊎ (i ≤ 0) → ⊥
  mixed i f b e (inl a) =
      let r = x.parents i a b in
      x.apart r.0 at r.2 (omega (arith, x.even, h)) (last_left (slice_index_or x.paths r.0 []) p r.1 f (sym r.3 ∙ e))
  mixed i f b e (inr a) =
      let z : i ≡ 0 = omega (arith, a) in
      no_last p f (sym x.root ∙ ap (λ j. slice_index_or x.paths j []) (sym z) ∙ e)

  apart : (i j : ℕ) → i < j → j < length all → (i < length ends) ⊎ (length ends ≤ i) → (j < length ends) ⊎ (length ends ≤ j) →
      slice_index_or all i [] ≢ slice_index_or all j []
  apart i j a b (inl c) (inl d) e = x.apart i j a (omega (arith, x.even, d)) (sym (old i c) ∙ e ∙ old j d)
  apart i j a b (inl c) (inr d) e =
      mixed i (slice_index_or (feats_of arcs) (j - length ends) 0) c (sym (old i c) ∙ e ∙ new_at j d (omega (arith, b, even))) (cases_lt 0 i)
  apart i j a b (inr c) (inl d) e = omega (arith, a, c, d)
  apart i j a b (inr c) (inr d) e =
      let j_in : j < length ends' = omega (arith, b, even) in
      let i_in : i < length ends' = omega (arith, a, j_in) in
      let same = last_right p p (slice_index_or (feats_of arcs) (i - length ends) 0) (slice_index_or (feats_of arcs) (j - length ends) 0)
      (sym (new_at i c i_in) ∙ e ∙ new_at j d j_in) in
      let r = rises (i - length ends) (j - length ends) (omega (arith, a, c, d)) (inside j d j_in) in
      omega (arith, r, same)

  parents : (i : ℕ) → 0 < i → i < length ends' → (i < length ends) ⊎ (length ends ≤ i) →
      (j : ℕ) × (f : ℕ) × (j < at + 1) × (slice_index_or all i [] ≡ slice_index_or all j [] ++ f ∷ [])
  parents i a b (inl c) =
      let r = x.parents i a c in
      let before = r.2 in
      (r.0, r.1, omega (arith, before), old i c ∙ r.3 ∙ ap (λ q. q ++ r.1 ∷ []) (sym (old r.0 (omega (arith, before, h)))))
  parents i a b (inr c) = (
    at,
    slice_index_or (feats_of arcs) (i - length ends) 0,
    omega arith,
    new_at i c b ∙ ap (λ q. q ++ slice_index_or (feats_of arcs) (i - length ends) 0 ∷ []) (sym (old at h)),
  )

  further_here : (f m : ℕ) → arc_to (arcs_at g (slice_index ends' at)) f ≡ Some m →
      (i : ℕ) × (i < length ends') × (slice_index_or all i [] ≡ slice_index_or all at [] ++ f ∷ [])
  further_here f m e =
      let e' : arc_to arcs f ≡ Some m = ap (λ l. arc_to l f) (sym (ap (arcs_at g) (old_end at h) ∙ row_is)) ∙ e in
      let r = arc_found arcs f m e' in
      let in' = r.1 in (
        length ends + r.0,
        omega (arith, longer, in'),
        new r.0 r.1 ∙ ap (λ z. p ++ z ∷ []) r.2 ∙ ap (λ q. q ++ f ∷ []) (sym (old at h)),
      )

  further : (j f m : ℕ) → j < at + 1 → j < length ends' → arc_to (arcs_at g (slice_index ends' j)) f ≡ Some m → (j < at) ⊎ (at ≤ j) →
      (i : ℕ) × (i < length ends') × (slice_index_or all i [] ≡ slice_index_or all j [] ++ f ∷ [])
  further j f m a b e (inl c) =
      let j_in : j < length ends = omega (arith, c, h) in
      let r = x.further j f m c j_in (ap (λ n. arc_to (arcs_at g n) f) (sym (old_end j j_in)) ∙ e) in
      let in' = r.1 in
      (r.0, omega (arith, longer, in'), old r.0 r.1 ∙ r.2 ∙ ap (λ q. q ++ f ∷ []) (sym (old j j_in)))
  further j f m a b e (inr c) =
      let z : at ≡ j = omega (arith, a, c) in
      let e' = subst (λ k. arc_to (arcs_at g (slice_index ends' k)) f ≡ Some m) (sym z) e in
      subst (λ k. (i : ℕ) × (i < length ends') × (slice_index_or all i [] ≡ slice_index_or all k [] ++ f ∷ [])) z (further_here f m e')

  pub followed_on : AreFollowed g ends' (at + 1)
  followed_on = record {
    paths = all;
    even = even;
    some = omega (arith, longer, x.some);
    lead = λ i b. lead i b (cases_lt i (length ends));
    apart = λ i j a b. apart i j a b (cases_lt i (length ends)) (cases_lt j (length ends));
    root = old 0 x.some ∙ x.root;
    parents = λ i a b. parents i a b (cases_lt i (length ends));
    further = λ j f m a b e. further j f m a b e (cases_lt j at);
  }

-- the row at the end of a path that was found
inside_plan : (types : List Ty) (starts : List ℕ) (arcs : List GraphArc) → ArePlan types starts arcs → (ends : List ℕ) (done at : ℕ) →
    AreFollowed (graph_map types starts arcs) ends done → at < length ends → slice_index ends at < length types
inside_plan types starts arcs plan ends done at x h =
    let size = length-map types (λ (t : Ty). t.0) in
    let filled = plan.filled in
    let some : 0 < length (map (λ (t : Ty). t.0) types) = omega (arith, size, filled) in
    let low : slice_index ends at < length (map (λ (t : Ty). t.0) types) =
    (walk_ends (table_of (graph_map types starts arcs)) (plan_table types starts arcs plan) 0 (slice_index ends at) (slice_index_or x.paths at []) some (x.lead at h)).0 in
    omega (arith, size, low)

pub row_there : (types : List Ty) (starts : List ℕ) (arcs : List GraphArc) → ArePlan types starts arcs → (ends : List ℕ) (done at : ℕ) →
    AreFollowed (graph_map types starts arcs) ends done → at < length ends → HaveRow starts arcs (slice_index ends at)
row_there types starts arcs plan ends done at x h = (types, plan, inside_plan types starts arcs plan ends done at x h)

pub goes_on : (types : List Ty) (starts : List ℕ) (arcs : List GraphArc) → ArePlan types starts arcs → (ends ends' : List GraphArc) (at : ℕ) →
    AreFollowed (graph_map types starts arcs) (targets_of ends) at → at < length ends → ends' ≡ ends ++ row starts arcs (slice_index (targets_of ends) at) →
    AreFollowed (graph_map types starts arcs) (targets_of ends') (at + 1)
goes_on types starts arcs plan ends ends' at x h is =
    let size = length-map ends (λ a. a.to.0) in
    let at_in : at < length (targets_of ends) = omega (arith, size, h) in
    let n = slice_index (targets_of ends) at in
    let inside = inside_plan types starts arcs plan (targets_of ends) at at x at_in in
    followed_on (graph_map types starts arcs) (plan_table types starts arcs plan) (targets_of ends) (targets_of ends') at (row starts arcs n) x at_in
    (row_at types starts arcs n inside) (plan.rises n inside) (ap targets_of is ∙ map-append (λ (a : GraphArc). a.to.0) ends (row starts arcs n))

-- where all were followed, each path was found
all_found : (g : GraphMap) → IsTable (table_of g) → (ends : List ℕ) (done : ℕ) (x : AreFollowed g ends done) → length ends ≤ done → (q p : Path) (i n : ℕ) →
    i < length ends → slice_index_or x.paths i [] ≡ q → walk (table_of g) (slice_index ends i) p ≡ Some n →
    (k : ℕ) × (k < length ends) × (slice_index_or x.paths k [] ≡ q ++ p)
all_found g ok ends done x all q [] i n h is e = (i, h, is ∙ sym (append-nil q))
all_found g ok ends done x all q (f ∷ p) i n h is e =
    go (arc_to (arcs_at g (slice_index ends i)) f) refl e (λ r j. all_found g ok ends done x all r p j n)
  where
    go : (o : Option ℕ) → arc_to (arcs_at g (slice_index ends i)) f ≡ o → elim o as (λ _. Option ℕ) [ None ↦ None | Some m ↦ walk (table_of g) m p ] ≡ Some n →
        ((r : Path) (j : ℕ) → j < length ends → slice_index_or x.paths j [] ≡ r → walk (table_of g) (slice_index ends j) p ≡ Some n →
        (k : ℕ) × (k < length ends) × (slice_index_or x.paths k [] ≡ r ++ p)) →
        (k : ℕ) × (k < length ends) × (slice_index_or x.paths k [] ≡ q ++ f ∷ p)
    go None a e' rest = absurd cc
    go (Some m) a e' rest =
        let r = x.further i f m (omega (arith, h, all)) h a in
        let found = x.lead r.0 r.1 in
        let step : walk (table_of g) 0 (slice_index_or x.paths r.0 []) ≡ Some m =
        ap (walk (table_of g) 0) r.2
        ∙ walk-append (table_of g) ok 0 (slice_index ends i) (slice_index_or x.paths i []) (f ∷ []) (x.lead i h)
        ∙ walk-step (table_of g) (slice_index ends i) m f [] a in
        let both : Some (slice_index ends r.0) ≡ Some m = sym found ∙ step in
        let end : slice_index ends r.0 ≡ m = cc in
        let k = rest (q ++ f ∷ []) r.0 r.1 (r.2 ∙ ap (λ z. z ++ f ∷ []) is) (ap (λ z. walk (table_of g) z p) end ∙ e') in
        (k.0, k.1, k.2 ∙ append_assoc q (f ∷ []) p)

bools : (b : Bool) → (b ≡ true) ⊎ (b ≡ false)
bools true = inl refl
bools false = inr refl

bytes_eq-same : (a b : Path) → bytes_eq a b ≡ true → a ≡ b
bytes_eq-same a b = (bytes_eq-Decides a b).0

bytes_eq-refl : (a b : Path) → a ≡ b → bytes_eq a b ≡ true
bytes_eq-refl a b = (bytes_eq-Decides a b).1

bytes_eq-swap : (a b : Path) → bytes_eq a b ≡ bytes_eq b a
bytes_eq-swap a b = go (bools (bytes_eq a b)) (bools (bytes_eq b a))
  where
    go : (bytes_eq a b ≡ true) ⊎ (bytes_eq a b ≡ false) → (bytes_eq b a ≡ true) ⊎ (bytes_eq b a ≡ false) → bytes_eq a b ≡ bytes_eq b a
    go (inl e) f = e ∙ sym (bytes_eq-refl b a (sym (bytes_eq-same a b e)))
    go (inr e) (inl f) = let d = bytes_eq-refl a b (sym (bytes_eq-same b a f)) in absurd (let z : true ≡ false = sym d ∙ e in cc)
    go (inr e) (inr f) = e ∙ sym f

bytes_same : IsEquivalence bytes_eq
bytes_same = record {
  refl = λ x. bytes_eq-refl x x refl;
  symm = bytes_eq-swap;
  congr = λ x y z e. ap (λ w. bytes_eq w z) (bytes_eq-same x y e);
}

apart_from : (x : Path) (xs : List Path) → ((j : ℕ) → j < length xs → x ≡ slice_index_or xs j [] → ⊥) → AllByRecursion (λ y. bytes_eq x y ≡ false) xs
apart_from x [] h = tt
apart_from x (y ∷ ys) h = (go (bools (bytes_eq x y)), apart_from x ys (λ j l e. h (suc j) (omega (arith, l)) e))
  where
    go : (bytes_eq x y ≡ true) ⊎ (bytes_eq x y ≡ false) → bytes_eq x y ≡ false
    go (inl e) = absurd (h 0 (omega arith) (bytes_eq-same x y e))
    go (inr e) = e

distinct_by : (xs : List Path) → AreApart xs → IsDistinctBy bytes_eq xs
unfolding IsDistinctBy
distinct_by [] h = tt
distinct_by (x ∷ xs) h = (apart_from x xs (λ j l e. h 0 (suc j) (omega arith) (omega (arith, l)) e), distinct_by xs (λ i j a b e. h (suc i) (suc j) (omega (arith, a)) (omega (arith, b)) e))

-- paths that are all in a list, each once, are no more than it has
no_more : (ps all : List Path) → AreApart ps → ((i : ℕ) → i < length ps → (k : ℕ) × (k < length all) × (slice_index_or all k [] ≡ slice_index_or ps i [])) →
    length ps ≤ length all
no_more ps all apart found = length-le_from_is_member bytes_same ps all (distinct_by ps apart) member
  where
    member : (q : Path) → list_any (bytes_eq q) ps ≡ true → list_any (bytes_eq q) all ≡ true
    member q e =
        let m = any_index (bytes_eq q) [] ps e in
        let is : q ≡ get_or ps m.0 [] = bytes_eq-same q (get_or ps m.0 []) m.2 in
        let c = found m.0 m.1 in
        any_at (bytes_eq q) all c.0 [] c.1 (bytes_eq-refl q (get_or all c.0 []) (is ∙ sym c.2))

-- where all were followed, no more lead from the root than were found
pub counts_few : (g : GraphMap) → IsTable (table_of g) → (ends : List ℕ) (done limit : ℕ) → AreFollowed g ends done → length ends ≤ done → length ends ≤ limit + 1 →
    Counts (table_of g) limit true
counts_few g ok ends done limit x all few m =
    let most = no_more m.paths x.paths m.apart found in
    omega (arith, most, m.more, x.even, few)
  where
    found : (i : ℕ) → i < length m.paths → (k : ℕ) × (k < length x.paths) × (slice_index_or x.paths k [] ≡ slice_index_or m.paths i [])
    found i h =
        let r = m.lead i h in
        let start = x.lead 0 x.some in
        let at_root : walk (table_of g) 0 [] ≡ Some (slice_index ends 0) = ap (walk (table_of g) 0) (sym x.root) ∙ start in
        let zero' : 0 ≡ slice_index ends 0 = cc in
        let k = all_found g ok ends done x all [] (slice_index_or m.paths i []) 0 r.0 x.some x.root
        (ap (λ z. walk (table_of g) z (slice_index_or m.paths i [])) (sym zero') ∙ r.1) in
        let in' = k.1 in
        (k.0, omega (arith, in', x.even), k.2)

pub counts_many : (g : GraphMap) (ends : List ℕ) (done limit : ℕ) → AreFollowed g ends done → limit + 1 < length ends → Counts (table_of g) limit false
counts_many g ends done limit x many = record {
  paths = x.paths;
  apart = x.apart;
  lead = λ i h. (slice_index ends i, x.lead i (omega (arith, h, x.even)));
  more = omega (arith, many, x.even);
}

-- the same, of arcs whose ends they are
pub few_found : (types : List Ty) (starts : List ℕ) (arcs : List GraphArc) → ArePlan types starts arcs → (ends : List GraphArc) (done limit : ℕ) →
    AreFollowed (graph_map types starts arcs) (targets_of ends) done → length ends ≤ done → length ends ≤ limit + 1 → Counts (table_of (graph_map types starts arcs)) limit true
few_found types starts arcs plan ends done limit x all few =
    let size = length-map ends (λ a. a.to.0) in
    counts_few (graph_map types starts arcs) (plan_table types starts arcs plan) (targets_of ends) done limit x (omega (arith, size, all)) (omega (arith, size, few))

pub many_found : (types : List Ty) (starts : List ℕ) (arcs : List GraphArc) (ends : List GraphArc) (done limit : ℕ) →
    AreFollowed (graph_map types starts arcs) (targets_of ends) done → limit + 1 < length ends → Counts (table_of (graph_map types starts arcs)) limit false
many_found types starts arcs ends done limit x many =
    let size = length-map ends (λ a. a.to.0) in
    counts_many (graph_map types starts arcs) (targets_of ends) done limit x (omega (arith, size, many))

leads_by : (t u : Table) (limit : ℕ) → ((p : Path) (n : ℕ) → walk t 0 p ≡ Some n → (m : ℕ) × (walk u 0 p ≡ Some m)) → LeadsMore t limit → LeadsMore u limit
leads_by t u limit leads m = record {
  paths = m.paths;
  apart = m.apart;
  lead = λ i h. let r = m.lead i h in leads (slice_index_or m.paths i []) r.0 r.1;
  more = m.more;
}

-- the paths of a picture from which nothing is cut off are those of the table
pub counts_shown : (t : Table) → IsTable t → (off : Off) → path_of off.at_root.now ≡ [] → path_of off.anywhere.now ≡ [] → (node_of : ℕ → ℕ) (g : GraphMap) →
    0 < length g.types → IsPicture t (leaves_of off) node_of g → (limit : ℕ) (few : Bool) → Counts (table_of g) limit few → Counts t limit few
counts_shown t ok off a b node_of g filled shows limit true c = λ m.
    c (leads_by t (table_of g) limit (λ p n e. path_whole t ok (path_of off.at_root.now) (path_of off.anywhere.now) node_of g a b filled shows p n e) m)
counts_shown t ok off a b node_of g filled shows limit false c =
    leads_by (table_of g) t limit (λ p j e. (node_of j, (root_shown t ok (leaves_of off) node_of g shows filled p j e).0)) c
