-- The steps of a visit on its lists.
use Rattle.std.proofs.Common.{ℕ, zero, suc, ◌≡◌, ◌≢◌, ◌≤◌, ◌<◌, ◌+◌, ◌*◌, ◌==◌, ◌⊎◌, inl, inr, Bool, true, false, cond, List, [], ◌∷◌, ◌++◌, length, map, slice_index, slice_index_or, set, replicate, refl, sym, ◌∙◌, ap, subst, arith, eq-eqb}
use Rattle.std.proofs.lemmas.Bool.{cases_lt, ne_eqb}
use Rattle.std.proofs.lemmas.List.{map_push, get_or-map, get_or-replicate, get_or_past, get_or_read, length-replicate, get_or_push, get_or_append_left, get_or-set_same, get_or-set_other, length-map, length-set, length_push}
use Rattle.std.proofs.lemmas.List.Sums.{sum_by-cons, sum_by_push, sum_by-set, get_or-le-sum_by}
use Rattle.fs_model.specs.Claims.{Path}
use Rattle.fs_model.specs.DepthFirst.{Plan, IsArc, Leads, Going, missing}
use Rattle.fs_model.proofs.VisitLemmas.{cycle_found}
use Rattle.fs_model.proofs.VisitSteps.{going_closes, going_passes}
use Rattle.fs_model.proofs.VisitMeets.{going_enters}
use Rattle.fs_model.proofs.RenumberLemmas.{going_begins}
use Rattle.fs_graph.specs.declared.graph.GraphArc.{GraphArc}
use Rattle.fs_graph.specs.declared.visit.Frame.{Frame}
use Rattle.fs_graph.specs.Visits.{targets_of, plan_of}
use Rattle.fs_graph.specs.Inner.Going.{IsVisitable, unmet, nodes_of, nexts_of, view_from, view_of, IsGoing, left_at, left_of}

-- a list of numbers with one more
pub last_at : (f : Frame → ℕ) (frames : List Frame) (x : Frame) → slice_index_or (map f (frames ++ x ∷ [])) (length frames) 0 ≡ f x
last_at f frames x = ap (λ l. slice_index_or l (length frames) 0) (map_push f frames x) ∙ get_or_push (map f frames) (f x) 0 (length frames) (length-map frames f)

pub front_at : (f : Frame → ℕ) (frames : List Frame) (x : Frame) (k : ℕ) → k < length frames →
    slice_index_or (map f (frames ++ x ∷ [])) k 0 ≡ slice_index_or (map f frames) k 0
front_at f frames x k h =
    ap (λ l. slice_index_or l k 0) (map_push f frames x)
    ∙ get_or_append_left (map f frames) (f x ∷ []) 0 k (let e = length-map frames f in omega arith)

-- a flag for a number that is missing
abbrev flag : ℕ → ℕ
flag x = cond (x == missing) 1 0

flag_missing : (x : ℕ) → x ≡ missing → flag x ≡ 1
flag_missing x e = ap (λ b. cond b 1 0) (eq-eqb x missing e)

flag_met : (x : ℕ) → x ≢ missing → flag x ≡ 0
flag_met x e = ap (λ b. cond b 1 0) (ne_eqb x missing e)

module _ (nodes : ℕ) (starts : List ℕ) (arcs : List GraphArc) (able : IsVisitable nodes starts arcs) (numbers order : List ℕ) (closed : List Bool)
    (frames : List Frame) (x : Frame) (g : IsGoing nodes starts arcs numbers order closed (frames ++ x ∷ [])) where
  abbrev p : Plan
  p = plan_of nodes starts arcs

  abbrev t : ℕ
  t = length frames

  abbrev all : List Frame
  all = frames ++ x ∷ []

  abbrev to : ℕ
  to = slice_index_or (targets_of arcs) x.next 0

  abbrev further : Frame
  further = record { node = x.node; next = x.next + 1 }

  abbrev fresh : Frame
  fresh = record { node = to; next = slice_index_or starts to 0 }

  depth_is : length all ≡ t + 1
  depth_is = length_push frames x

  t_in : t < length all
  t_in = let e = depth_is in omega arith

  top : slice_index_or (nodes_of all) t 0 ≡ x.node
  top = last_at (λ f. f.node) frames x

  top_next : slice_index_or (nexts_of all) t 0 ≡ x.next
  top_next = last_at (λ f. f.next) frames x

  pub frame_in : (x.node < nodes) × (slice_index_or numbers x.node 0 ≢ missing)
  frame_in = subst (λ z. (z < nodes) × (slice_index_or numbers z 0 ≢ missing)) top (g.going.open_in t t_in)

  pub frame_next : (p.start x.node ≤ x.next) × (x.next ≤ p.start (x.node + 1))
  frame_next =
      subst (λ z. (p.start x.node ≤ z) × (z ≤ p.start (x.node + 1))) top_next
      (subst (λ z. (p.start z ≤ slice_index_or (nexts_of all) t 0) × (slice_index_or (nexts_of all) t 0 ≤ p.start (z + 1))) top (g.going.open_next t t_in))

  pub next_in : x.next ≢ p.start (x.node + 1) → (IsArc p x.node x.next) × (x.next < length arcs) × (to < nodes)
  next_in apart =
      let n = frame_next in
      let low = n.0 in
      let high = n.1 in
      let node = frame_in.0 in
      let inside : p.start (x.node + 1) ≤ length arcs = able.inside (x.node + 1) (omega arith) in
      let arc : IsArc p x.node x.next = (omega arith, omega arith) in
      (arc, omega arith, able.plan.to_in x.node x.next node arc)

  top_arc : x.next ≢ p.start (x.node + 1) → IsArc p (slice_index_or (nodes_of all) t 0) x.next
  top_arc apart = subst (λ z. IsArc p z x.next) (sym top) (next_in apart).0

  pub visit_closes : x.next ≡ p.start (x.node + 1) → IsGoing nodes starts arcs numbers order (set closed x.node true) frames
  visit_closes spent = record {
    numbers_all = g.numbers_all;
    closed_all = length-set closed x.node true ∙ g.closed_all;
    counted = g.counted;
    going = going_closes p able.plan (view_of numbers order closed all) g.going t x.node (λ n. slice_index_or (set closed x.node true) n false)
        (slice_index (nodes_of frames)) (slice_index (nexts_of frames)) depth_is top (top_next ∙ spent)
        (get_or-set_same closed x.node true false (let e = g.closed_all in let h = frame_in.0 in omega arith))
        (λ k e. get_or-set_other closed x.node k true false e)
        (λ k h. sym (front_at (λ f. f.node) frames x k h)) (λ k h. sym (front_at (λ f. f.next) frames x k h));
  }

  pub visit_passes : x.next ≢ p.start (x.node + 1) → slice_index_or closed to false ≡ true →
      IsGoing nodes starts arcs numbers order closed (frames ++ further ∷ [])
  visit_passes apart old = record {
    numbers_all = g.numbers_all;
    closed_all = g.closed_all;
    counted = g.counted;
    going = subst (λ l. Going p (view_from numbers order closed (length (frames ++ further ∷ [])) l (nexts_of (frames ++ further ∷ [])))) same_nodes
        (subst (λ d. Going p (view_from numbers order closed d (nodes_of all) (nexts_of (frames ++ further ∷ [])))) same_depth
        (going_passes p (view_of numbers order closed all) g.going t x.next (slice_index (nexts_of (frames ++ further ∷ [])))
        depth_is (top_arc apart) top_next (last_at (λ f. f.next) frames further)
        (λ k h. front_at (λ f. f.next) frames further k h ∙ sym (front_at (λ f. f.next) frames x k h)) old));
  }
    where
      same_depth : length all ≡ length (frames ++ further ∷ [])
      same_depth = length_push frames x ∙ sym (length_push frames further)

      same_nodes : nodes_of all ≡ nodes_of (frames ++ further ∷ [])
      same_nodes = map_push (λ f. f.node) frames x ∙ sym (map_push (λ f. f.node) frames further)

  abbrev opened : List Frame
  opened = (frames ++ further ∷ []) ++ fresh ∷ []

  one_less : slice_index_or numbers to 0 ≡ missing → to < nodes → unmet (set numbers to (length order)) + 1 ≡ unmet numbers
  one_less new h =
      let e = g.numbers_all in
      let few = able.few in
      let c = g.counted in
      let at : to < length numbers = omega arith in
      let before = flag_missing (slice_index_or numbers to 0) new in
      let least = get_or-le-sum_by flag numbers to 0 at in
      let room : length order ≢ missing = λ d. absurd (omega arith) in
      let after = flag_met (length order) room in
      omega (arith, sum_by-set flag numbers to (length order) 0 at)

  pub visit_enters : x.next ≢ p.start (x.node + 1) → slice_index_or numbers to 0 ≡ missing →
      IsGoing nodes starts arcs (set numbers to (length order)) (order ++ to ∷ []) closed opened
  visit_enters apart new = record {
    numbers_all = length-set numbers to (length order) ∙ g.numbers_all;
    closed_all = g.closed_all;
    counted = let l = length_push order to in let u = one_less new in_to in let c = g.counted in omega arith;
    going = subst (λ d. Going p (view_from (set numbers to (length order)) (order ++ to ∷ []) closed d (nodes_of opened) (nexts_of opened))) (sym deep)
        (subst (λ c. Going p (record {
          number = slice_index (set numbers to (length order));
          count = c;
          node_of = slice_index (order ++ to ∷ []);
          closed = λ n. slice_index_or closed n false;
          depth = t + 2;
          open_node = slice_index (nodes_of opened);
          next = slice_index (nexts_of opened);
        })) (sym (length_push order to))
        (going_enters p able.plan (view_of numbers order closed all) g.going t x.next (slice_index (set numbers to (length order)))
        (slice_index (order ++ to ∷ [])) (slice_index (nodes_of opened)) (slice_index (nexts_of opened)) depth_is (top_arc apart) top_next new room
        (get_or-set_same numbers to (length order) 0 (let e = g.numbers_all in let h = in_to in omega arith))
        (λ k e. get_or-set_other numbers to k (length order) 0 e)
        (get_or_push order to 0 (length order) refl)
        (λ k h. get_or_append_left order (to ∷ []) 0 k h)
        (at_new (λ f. f.node))
        (λ k h. nodes_under k h)
        (at_new (λ f. f.next))
        (at_further (λ f. f.next))
        (λ k h. under (λ f. f.next) k h)));
  }
    where
      in_to : to < nodes
      in_to = (next_in apart).2

      room : length order < missing
      room =
          let c = g.counted in
          let e = g.numbers_all in
          let few = able.few in
          let h = in_to in
          let before = flag_missing (slice_index_or numbers to 0) new in
          omega (arith, get_or-le-sum_by flag numbers to 0 (omega arith))

      deep : length opened ≡ t + 2
      deep = let a = length_push (frames ++ further ∷ []) fresh in let b = length_push frames further in omega arith

      at_new : (f : Frame → ℕ) → slice_index_or (map f opened) (t + 1) 0 ≡ f fresh
      at_new f = ap (λ k. slice_index_or (map f opened) k 0) (sym (length_push frames further)) ∙ last_at f (frames ++ further ∷ []) fresh

      at_further : (f : Frame → ℕ) → slice_index_or (map f opened) t 0 ≡ f further
      at_further f = front_at f (frames ++ further ∷ []) fresh t (let b = length_push frames further in omega arith) ∙ last_at f frames further

      under : (f : Frame → ℕ) (k : ℕ) → k < t → slice_index_or (map f opened) k 0 ≡ slice_index_or (map f all) k 0
      under f k h =
          front_at f (frames ++ further ∷ []) fresh k (let b = length_push frames further in omega arith) ∙ front_at f frames further k h
          ∙ sym (front_at f frames x k h)

      nodes_under : (k : ℕ) → k < t + 1 → slice_index_or (nodes_of opened) k 0 ≡ slice_index_or (nodes_of all) k 0
      nodes_under k h = go (cases_lt k t)
        where
          go : (k < t) ⊎ (t ≤ k) → slice_index_or (nodes_of opened) k 0 ≡ slice_index_or (nodes_of all) k 0
          go (inl l) = under (λ f. f.node) k l
          go (inr l) =
              let e : k ≡ t = omega arith in
              ap (λ z. slice_index_or (nodes_of opened) z 0) e ∙ at_further (λ f. f.node) ∙ sym top ∙ ap (λ z. slice_index_or (nodes_of all) z 0) (sym e)

  pub visit_clashes : x.next ≢ p.start (x.node + 1) → slice_index_or numbers to 0 ≢ missing → slice_index_or closed to false ≡ false →
      ((q : Path) × Leads p 0 q to) × ((q : Path) × (q ≢ []) × Leads p to q to)
  visit_clashes apart met not_closed = cycle_found p able.plan (view_of numbers order closed all) g.going t x.next depth_is (top_arc apart) met not_closed

  abbrev left : List ℕ → List Frame → ℕ
  left = left_of starts (length arcs)

  pub less_closes : left numbers frames < left numbers all
  less_closes = let s = sum_by_push (left_at starts) frames x in omega arith

  pub less_passes : x.next ≢ p.start (x.node + 1) → left numbers (frames ++ further ∷ []) < left numbers all
  less_passes apart =
      let a = sum_by_push (left_at starts) frames x in
      let b = sum_by_push (left_at starts) frames further in
      let n = frame_next in
      let high = n.1 in
      omega arith

  pub less_enters : x.next ≢ p.start (x.node + 1) → slice_index_or numbers to 0 ≡ missing →
      left (set numbers to (length order)) opened < left numbers all
  less_enters apart new =
      let a = sum_by_push (left_at starts) frames x in
      let b = sum_by_push (left_at starts) frames further in
      let c = sum_by_push (left_at starts) (frames ++ further ∷ []) fresh in
      let n = frame_next in
      let high = n.1 in
      let to_in = (next_in apart).2 in
      let inside : p.start (to + 1) ≤ length arcs = able.inside (to + 1) (omega arith) in
      let u = one_less new to_in in
      falls (unmet (set numbers to (length order))) (unmet numbers) (length arcs + 2) _ _ u (omega arith)
    where
      falls : (u v k s r : ℕ) → u + 1 ≡ v → s < k + r → u * k + s < v * k + r
      falls u v k s r e h = subst (λ z. u * k + s < z * k + r) e (omega arith)

  abbrev target : ℕ
  target = (slice_index_or arcs x.next (record { feat = record { 0 = 0 }; to = record { 0 = 0 } })).to.0

  target_is : x.next ≢ p.start (x.node + 1) → to ≡ target
  target_is apart = get_or-map (λ a. a.to.0) arcs x.next (record { feat = record { 0 = 0 }; to = record { 0 = 0 } }) 0 (next_in apart).1

  -- what the code reads is in its range
  pub target_in : x.next ≢ p.start (x.node + 1) → (target < nodes) × (target < length numbers) × (target < length closed) × (target < length starts)
  target_in apart =
      let at : target < nodes = subst (λ z. z < nodes) (target_is apart) (next_in apart).2 in
      let a = g.numbers_all in
      let b = g.closed_all in
      let c = able.one_more in
      (at, omega arith, omega arith, omega arith)

  number_read : x.next ≢ p.start (x.node + 1) → (r : ℕ) → r ≡ slice_index_or numbers target r → r ≡ slice_index_or numbers target 0
  number_read apart r e = get_or_read numbers target r (target_in apart).1 e 0

  closed_read : x.next ≢ p.start (x.node + 1) → (r : Bool) → r ≡ slice_index_or closed target r → r ≡ slice_index_or closed target false
  closed_read apart r e = get_or_read closed target r (target_in apart).2 e false

  -- the state after the arc, in which a node is met for the first time
  abbrev Entered : ℕ → Type 0
  Entered m =
      slice_index_or numbers m 0 ≡ missing → (numbers' order' : List ℕ) (closed' : List Bool) (frames' : List Frame) →
      numbers' ≡ set numbers m (length order) → order' ≡ order ++ m ∷ [] → closed' ≡ closed →
      frames' ≡ (frames ++ further ∷ []) ++ record { node = m; next = slice_index_or starts m 0 } ∷ [] →
      IsGoing nodes starts arcs numbers' order' closed' frames' × (left numbers' frames' < left numbers all)

  pub pass_enters : x.next ≢ p.start (x.node + 1) → (r : ℕ) → r ≡ slice_index_or numbers target r → r ≡ missing →
      (numbers' order' : List ℕ) (closed' : List Bool) (pushed frames' : List Frame) →
      numbers' ≡ set numbers target (length order) → order' ≡ order ++ target ∷ [] → closed' ≡ closed → pushed ≡ frames ++ further ∷ [] →
      frames' ≡ pushed ++ record { node = target; next = slice_index_or starts target 0 } ∷ [] →
      IsGoing nodes starts arcs numbers' order' closed' frames' × (left numbers' frames' < left numbers all)
  pass_enters apart r read new numbers' order' closed' pushed frames' a b c e d =
      subst Entered (target_is apart) here_to (sym (number_read apart r read) ∙ new) numbers' order' closed' frames' a b c
      (d ∙ ap (λ l. l ++ record { node = target; next = slice_index_or starts target 0 } ∷ []) e)
    where
      here_to : Entered to
      here_to new numbers' order' closed' frames' a b c d =
          subst (λ z. IsGoing nodes starts arcs z order' closed' frames' × (left z frames' < left numbers all)) (sym a)
          (subst (λ z. IsGoing nodes starts arcs (set numbers to (length order)) z closed' frames' × (left (set numbers to (length order)) frames' < left numbers all)) (sym b)
          (subst (λ z. IsGoing nodes starts arcs (set numbers to (length order)) (order ++ to ∷ []) z frames' × (left (set numbers to (length order)) frames' < left numbers all)) (sym c)
          (subst (λ z. IsGoing nodes starts arcs (set numbers to (length order)) (order ++ to ∷ []) closed z × (left (set numbers to (length order)) z < left numbers all)) (sym d)
          (visit_enters apart new, less_enters apart new))))

  pub pass_goes_on : x.next ≢ p.start (x.node + 1) → (r : Bool) → r ≡ slice_index_or closed target r → r ≡ true → (frames' : List Frame) →
      frames' ≡ frames ++ further ∷ [] → IsGoing nodes starts arcs numbers order closed frames' × (left numbers frames' < left numbers all)
  pass_goes_on apart r read is frames' e =
      subst (λ z. IsGoing nodes starts arcs numbers order closed z × (left numbers z < left numbers all)) (sym e)
      (visit_passes apart (subst (λ z. slice_index_or closed z false ≡ true) (sym (target_is apart)) (sym (closed_read apart r read) ∙ is)), less_passes apart)

  pub pass_clashes : x.next ≢ p.start (x.node + 1) → (m : ℕ) → m ≡ slice_index_or numbers target m → m ≢ missing →
      (r : Bool) → r ≡ slice_index_or closed target r → r ≡ false →
      ((q : Path) × Leads p 0 q target) × ((q : Path) × (q ≢ []) × Leads p target q target)
  pass_clashes apart m read met r read' is =
      subst (λ z. ((q : Path) × Leads p 0 q z) × ((q : Path) × (q ≢ []) × Leads p z q z)) (target_is apart)
      (visit_clashes apart
      (subst (λ z. slice_index_or numbers z 0 ≢ missing) (sym (target_is apart)) (λ e. met (number_read apart m read ∙ e)))
      (subst (λ z. slice_index_or closed z false ≡ false) (sym (target_is apart)) (sym (closed_read apart r read') ∙ is)))

-- a visit's beginning
module _ (nodes : ℕ) (starts : List ℕ) (arcs : List GraphArc) (able : IsVisitable nodes starts arcs) where
  all_missing : (n : ℕ) → unmet (replicate n missing) ≡ n
  all_missing zero = refl
  all_missing (suc n) = sum_by-cons flag missing (replicate n missing) ∙ (let e = all_missing n in let f = flag_missing missing refl in omega arith)

  pub visit_begins : (numbers order : List ℕ) (closed : List Bool) (frames : List Frame) → numbers ≡ set (replicate nodes missing) 0 0 → order ≡ 0 ∷ [] →
      closed ≡ replicate nodes false → frames ≡ record { node = 0; next = slice_index_or starts 0 0 } ∷ [] →
      IsGoing nodes starts arcs numbers order closed frames
  visit_begins numbers order closed frames a b c d =
      subst (λ z. IsGoing nodes starts arcs z order closed frames) (sym a)
      (subst (λ z. IsGoing nodes starts arcs first z closed frames) (sym b)
      (subst (λ z. IsGoing nodes starts arcs first (0 ∷ []) z frames) (sym c)
      (subst (λ z. IsGoing nodes starts arcs first (0 ∷ []) (replicate nodes false) z) (sym d) begun)))
    where
      first : List ℕ
      first = set (replicate nodes missing) 0 0

      size : length first ≡ nodes
      size = length-set (replicate nodes missing) 0 0 ∙ length-replicate nodes missing

      closed_no : (n : ℕ) → slice_index_or (replicate nodes false) n false ≡ false
      closed_no n = go (cases_lt n nodes)
        where
          go : (n < nodes) ⊎ (nodes ≤ n) → slice_index_or (replicate nodes false) n false ≡ false
          go (inl h) = get_or-replicate nodes n false false h
          go (inr h) = get_or_past (replicate nodes false) n false (let e = length-replicate nodes false in omega arith)

      begun : IsGoing nodes starts arcs first (0 ∷ []) (replicate nodes false) (record { node = 0; next = slice_index_or starts 0 0 } ∷ [])
      begun =
          let filled = able.filled in
          let e = length-replicate nodes missing in
          record {
            numbers_all = size;
            closed_all = length-replicate nodes false;
            counted =
                let s = sum_by-set flag (replicate nodes missing) 0 0 0 (omega arith) in
                let f = flag_missing (slice_index_or (replicate nodes missing) 0 0) (get_or-replicate nodes 0 missing 0 filled) in
                let g = flag_met 0 (λ z. absurd (omega arith)) in
                let all = all_missing nodes in
                omega arith;
            going = going_begins (plan_of nodes starts arcs) able.plan filled
                (view_of first (0 ∷ []) (replicate nodes false) (record { node = 0; next = slice_index_or starts 0 0 } ∷ [])) refl refl
                (get_or-set_same (replicate nodes missing) 0 0 0 (omega arith))
                (λ n h apart. get_or-set_other (replicate nodes missing) 0 n 0 0 apart ∙ get_or-replicate nodes n missing 0 h)
                refl closed_no refl refl;
          }
