-- The paths along which properties go, from a node on.
use Rattle.std.proofs.Common.{ℕ, zero, suc, ◌≡◌, ◌<◌, ◌≤◌, ◌+◌, ◌-◌, inl, inr, Bool, true, false, List, [], ◌∷◌, ◌++◌, length, length-append, append_assoc, map, take, drop, get_or, refl, sym, ◌∙◌, ap, subst, arith}
use Rattle.std.specs.Prelude.{All, filter, Some, reverse}
use Rattle.std.specs.List.{flat_map}
use Rattle.std.proofs.lemmas.List.{reverse-append}
use Rattle.fs_graph.specs.declared.graph.GraphArc.{GraphArc}
use Rattle.fs_graph.specs.GraphMap.{GraphMap, IsGraph, arc_to, arcs_at}
use Rattle.type_hierarchy.specs.Table.{TypeTable}
use Rattle.mrs_places.specs.Paths.{Paths}
use Rattle.mrs_places.specs.Inner.Walked.{Along, stays, further}
use Rattle.mrs_places.proofs.Ranks.{along_short}
use Rattle.mrs_extract.specs.declared.properties.Waiting.{Waiting}
use Rattle.mrs_extract.specs.Asked.{IsOf}
use Rattle.mrs_extract.specs.Extraction.{open_arcs, is_open, is_among, is_role, role_arcs}
use Rattle.mrs_extract.specs.Inner.Routes.{Route, under, routes, routes_by, waits, pending, Rests, IsArcIn, AreWaiting, is_value, properties_of, numbers_of}
use Rattle.fs_graph.specs.declared.facts.Feat.{Feat}
use Rattle.mrs_model.specs.Meanings.{Property}
use Rattle.mrs_extract.proofs.Lists.{In, of_filter, all_in, all_at, flat_same, Firm, firm_of, firm_filter, firm_arc}

map_append : {A B : Type 0} (f : A → B) (xs ys : List A) → map f (xs ++ ys) ≡ map f xs ++ map f ys
map_append f [] ys = refl
map_append f (x ∷ xs) ys = ap (λ l. f x ∷ l) (map_append f xs ys)

map_flat : {A B C : Type 0} (f : B → C) (h : A → List B) (xs : List A) → map f (flat_map h xs) ≡ flat_map (λ x. map f (h x)) xs
map_flat f h [] = refl
map_flat f h (x ∷ xs) = map_append f (h x) (flat_map h xs) ∙ ap (λ l. map f (h x) ++ l) (map_flat f h xs)

module _ (g : GraphMap) (is : IsGraph g) where
  -- an arc leads to a node of the graph
  pub arc_leads : (n : ℕ) (a : GraphArc) → n < length g.types → In a (arcs_at g n) → arc_to (arcs_at g n) a.feat.0 ≡ Some a.to.0
  arc_leads n a lt h = firm_arc (arcs_at g n) a (firm_of (arcs_at g n) (is.rises n lt)) h

  pub arc_inside : (n : ℕ) (a : GraphArc) → n < length g.types → In a (arcs_at g n) → a.to.0 < length g.types
  arc_inside n a lt h = is.numbered.table.arc_in n a.feat.0 a.to.0 lt (arc_leads n a lt h)

  module _ (p : Paths) where
    pub open_arc : (n : ℕ) (a : GraphArc) → In a (open_arcs g p n) → In a (arcs_at g n)
    open_arc n a h = (of_filter (is_open p) a (arcs_at g n) h).0

    pub open_firm : (n : ℕ) → n < length g.types → Firm (open_arcs g p n)
    open_firm n lt = firm_filter (is_open p) (arcs_at g n) (firm_of (arcs_at g n) (is.rises n lt))

    -- no path is longer than there are nodes
    stable : (m j k n : ℕ) → m < length g.types → n < length g.types → Along g m j n → length g.types ≤ j + k → routes g p (suc k) n ≡ routes g p k n
    stable m j zero n lm ln along le = absurd (let s = along_short g is m j n lm along in omega (arith, s, le))
    stable m j (suc k) n lm ln along le =
        flat_same (routes_by g p (suc k)) (routes_by g p k) (open_arcs g p n)
        (λ a h. (let arc = open_arc n a h in
        let more = stable m (j + 1) k a.to.0 lm (arc_inside n a ln arc) (further j n a.to.0 a.feat.0 along (arc_leads n a ln arc)) (omega (arith, le)) in
        ap (λ rs. record { path = a.feat.0 ∷ []; end = a.to.0 } ∷ map (under (a.feat.0 ∷ [])) rs) more))

    pub all_routes : (n : ℕ) → n < length g.types → routes g p (length g.types) n ≡ flat_map (routes_by g p (length g.types)) (open_arcs g p n)
    all_routes n lt = sym (stable n 0 (length g.types) n lt lt stays (omega arith))

-- fronts of paths
take_take : {A : Type 0} (a b : ℕ) (xs : List A) → a ≤ b → take a (take b xs) ≡ take a xs
take_take zero b xs le = refl
take_take (suc a) zero xs le = absurd (omega (arith, le))
take_take (suc a) (suc b) [] le = refl
take_take (suc a) (suc b) (x ∷ xs) le = ap (λ l. x ∷ l) (take_take a b xs (omega (arith, le)))

take_front : {A : Type 0} (xs ys : List A) → take (length xs) (xs ++ ys) ≡ xs
take_front [] ys = refl
take_front (x ∷ xs) ys = ap (λ l. x ∷ l) (take_front xs ys)

take_self : {A : Type 0} (xs : List A) → take (length xs) xs ≡ xs
take_self [] = refl
take_self (x ∷ xs) = ap (λ l. x ∷ l) (take_self xs)

length_take : {A : Type 0} (n : ℕ) (xs : List A) → n ≤ length xs → length (take n xs) ≡ n
length_take zero xs le = refl
length_take (suc n) [] le = absurd (omega (arith, le))
length_take (suc n) (x ∷ xs) le = let e = length_take n xs (omega (arith, le)) in omega (arith, e)

in_take : {A : Type 0} (x : A) (n : ℕ) (xs : List A) → In x (take n xs) → In x xs
in_take x zero xs h = absurd h
in_take x (suc n) [] h = absurd h
in_take x (suc n) (y ∷ ys) (inl e) = inl e
in_take x (suc n) (y ∷ ys) (inr h) = inr (in_take x n ys h)

all_append : {A : Type 0} (P : A → Type 0) (xs ys : List A) → ((x : A) → In x xs → P x) → ((x : A) → In x ys → P x) → (x : A) → In x (xs ++ ys) → P x
all_append P [] ys a b x h = b x h
all_append P (y ∷ xs) ys a b x (inl e) = a x (inl e)
all_append P (y ∷ xs) ys a b x (inr h) = all_append P xs ys (λ z k. a z (inr k)) b x h

under_twice : (path : List ℕ) (f : ℕ) (rs : List Route) → map (under path) (map (under (f ∷ [])) rs) ≡ map (under (path ++ f ∷ [])) rs
under_twice path f [] = refl
under_twice path f (r ∷ rs) =
    let e = sym (append_assoc path (f ∷ []) r.path) in
    let m = under_twice path f rs in
    λ i. record { path = e i; end = r.end } ∷ m i

module _ (g : GraphMap) (p : Paths) (k : ℕ) where
  -- what waits no deeper than a common front goes on alike
  same_front : (path other : List ℕ) (depth : ℕ) (ws : List Waiting) → Rests depth ws → take depth path ≡ take depth other → pending g p k path ws ≡ pending g p k other ws
  same_front path other depth [] r e = refl
  same_front path other depth (w ∷ ws) r e =
      let front : take w.depth path ≡ take w.depth other = sym (take_take w.depth depth path r.0) ∙ ap (take w.depth) e ∙ take_take w.depth depth other r.0 in
      let rest = same_front path other w.depth ws r.1 front in
      λ i. map (under (front i)) (routes_by g p k w.arc) ++ rest i

  waits_for : (path : List ℕ) (as_ : List GraphArc) (ws : List Waiting) → pending g p k path (map (waits (length path)) as_ ++ ws) ≡ map (under path) (flat_map (routes_by g p k) as_) ++ pending g p k path ws
  waits_for path [] ws = refl
  waits_for path (a ∷ as_) ws =
      ap (λ q. map (under q) (routes_by g p k a) ++ pending g p k path (map (waits (length path)) as_ ++ ws)) (take_self path)
      ∙ ap (λ l. map (under path) (routes_by g p k a) ++ l) (waits_for path as_ ws)
      ∙ sym (append_assoc (map (under path) (routes_by g p k a)) (map (under path) (flat_map (routes_by g p k) as_)) (pending g p k path ws))
      ∙ ap (λ l. l ++ pending g p k path ws) (sym (map_append (under path) (routes_by g p k a) (flat_map (routes_by g p k) as_)))

rests_more : (d e : ℕ) (ws : List Waiting) → Rests d ws → d ≤ e → Rests e ws
rests_more d e [] r le = tt
rests_more d e (w ∷ ws) r le = (let l = r.0 in omega (arith, l, le), r.1)

rests_waits : (d e : ℕ) (as_ : List GraphArc) (ws : List Waiting) → Rests d ws → d ≤ e → Rests e (map (waits e) as_ ++ ws)
rests_waits d e [] ws r le = rests_more d e ws r le
rests_waits d e (a ∷ as_) ws r le = (omega arith, rests_waits d e as_ ws r le)

in_waits : (d : ℕ) (as_ : List GraphArc) (w : Waiting) → In w (map (waits d) as_) → In w.arc as_
in_waits d [] w h = absurd h
in_waits d (a ∷ as_) w (inl e) = inl (ap (λ x. x.arc) e)
in_waits d (a ∷ as_) w (inr h) = inr (in_waits d as_ w h)

-- the path goes along the arc that comes next, and the arcs of the node there wait
module _ (g : GraphMap) (is : IsGraph g) (p : Paths) (feats : ℕ) (path new : List ℕ) (w : Waiting) (ws : List Waiting) (h : AreWaiting (length g.types) feats path (w ∷ ws))
    (e : new ≡ take w.depth path ++ w.arc.feat.0 ∷ []) where
  waiting_in : IsArcIn (length g.types) feats w.arc
  waiting_in = all_at (λ v. IsArcIn (length g.types) feats v.arc) (w ∷ ws) w h.arcs (inl refl)

  depth_is : length (take w.depth path) ≡ w.depth
  depth_is = length_take w.depth path h.rests.0

  pub new_length : length new ≡ w.depth + 1
  new_length = ap length e ∙ length-append (take w.depth path) (w.arc.feat.0 ∷ []) ∙ ap (λ (k : ℕ). k + 1) depth_is

  front_same : take w.depth path ≡ take w.depth new
  front_same = sym (ap (take w.depth) e ∙ ap (λ (k : ℕ). take k (take w.depth path ++ w.arc.feat.0 ∷ [])) (sym depth_is) ∙ take_front (take w.depth path) (w.arc.feat.0 ∷ []))

  pub visited : (k : ℕ) → k ≡ length g.types → pending g p k path (w ∷ ws) ≡ record { path = new; end = w.arc.to.0 } ∷ pending g p k new (map (waits (length new)) (open_arcs g p w.arc.to.0) ++ ws)
  visited k size =
      let first : map (under (take w.depth path)) (map (under (w.arc.feat.0 ∷ [])) (routes g p k w.arc.to.0)) ≡ map (under new) (routes g p k w.arc.to.0)
      = under_twice (take w.depth path) w.arc.feat.0 (routes g p k w.arc.to.0) ∙ ap (λ q. map (under q) (routes g p k w.arc.to.0)) (sym e) in
      let all : routes g p k w.arc.to.0 ≡ flat_map (routes_by g p k) (open_arcs g p w.arc.to.0)
      = subst (λ (j : ℕ). routes g p j w.arc.to.0 ≡ flat_map (routes_by g p j) (open_arcs g p w.arc.to.0)) (sym size) (all_routes g is p w.arc.to.0 waiting_in.to) in
      let rest = same_front g p k path new w.depth ws h.rests.1 front_same in
      let more : map (under (take w.depth path)) (map (under (w.arc.feat.0 ∷ [])) (routes g p k w.arc.to.0)) ++ pending g p k path ws
      ≡ pending g p k new (map (waits (length new)) (open_arcs g p w.arc.to.0) ++ ws)
      = (λ i. first i ++ rest i) ∙ ap (λ rs. map (under new) rs ++ pending g p k new ws) all ∙ sym (waits_for g p k new (open_arcs g p w.arc.to.0) ws) in
      λ i. record { path = sym e i; end = w.arc.to.0 } ∷ more i

  pub still_waiting : (types : TypeTable) → feats ≡ length p.feats → IsOf types p g → AreWaiting (length g.types) feats new (map (waits (length new)) (open_arcs g p w.arc.to.0) ++ ws)
  still_waiting types count of_ = record {
    rests = rests_waits w.depth (length new) (open_arcs g p w.arc.to.0) ws h.rests.1 (let l = new_length in omega (arith, l));
    arcs = all_in (λ v. IsArcIn (length g.types) feats v.arc) (map (waits (length new)) (open_arcs g p w.arc.to.0) ++ ws)
        (all_append (λ v. IsArcIn (length g.types) feats v.arc) (map (waits (length new)) (open_arcs g p w.arc.to.0)) ws
        (λ v k. (let a = open_arc g is p w.arc.to.0 v.arc (in_waits (length new) (open_arcs g p w.arc.to.0) v k) in
        record {
          to = arc_inside g is w.arc.to.0 v.arc waiting_in.to a;
          feat = subst (λ (j : ℕ). v.arc.feat.0 < j) (sym count) (all_at (λ b. b.feat.0 < length p.feats) (arcs_at g w.arc.to.0) v.arc (of_.feats_in w.arc.to.0 waiting_in.to) a);
        }))
        (λ v k. all_at (λ u. IsArcIn (length g.types) feats u.arc) (w ∷ ws) v h.arcs (inr k)));
    path_in = subst (All (λ f. f < feats)) (sym e) (all_in (λ f. f < feats) (take w.depth path ++ w.arc.feat.0 ∷ [])
        (all_append (λ f. f < feats) (take w.depth path) (w.arc.feat.0 ∷ [])
        (λ f k. all_at (λ x. x < feats) path f h.path_in (in_take f w.depth path k))
        (λ f k. elim k [ inl q ↦ subst (λ (j : ℕ). j < feats) (sym q) waiting_in.feat | inr q ↦ absurd q ])));
  }

-- the arcs of the first node wait
pub first_waiting : (g : GraphMap) (is : IsGraph g) (p : Paths) (types : TypeTable) (n : ℕ) → n < length g.types → IsOf types p g → AreWaiting (length g.types) (length p.feats) [] (map (waits 0) (open_arcs g p n) ++ [])
first_waiting g is p types n lt of_ = record {
  rests = rests_waits 0 0 (open_arcs g p n) [] tt (omega arith);
  arcs = all_in (λ v. IsArcIn (length g.types) (length p.feats) v.arc) (map (waits 0) (open_arcs g p n) ++ [])
      (all_append (λ v. IsArcIn (length g.types) (length p.feats) v.arc) (map (waits 0) (open_arcs g p n)) []
      (λ v k. (let a = open_arc g is p n v.arc (in_waits 0 (open_arcs g p n) v k) in
      record { to = arc_inside g is n v.arc lt a; feat = all_at (λ b. b.feat.0 < length p.feats) (arcs_at g n) v.arc (of_.feats_in n lt) a }))
      (λ v k. absurd k));
  path_in = all_in (λ f. f < length p.feats) [] (λ f k. absurd k);
}

under_none : (rs : List Route) → map (under []) rs ≡ rs
under_none [] = refl
under_none (r ∷ rs) = ap (λ l. r ∷ l) (under_none rs)

pub first_pending : (g : GraphMap) (is : IsGraph g) (p : Paths) (n : ℕ) → n < length g.types → pending g p (length g.types) [] (map (waits 0) (open_arcs g p n) ++ []) ≡ routes g p (length g.types) n
first_pending g is p n lt =
    waits_for g p (length g.types) [] (open_arcs g p n) []
    ∙ (let e = under_none (flat_map (routes_by g p (length g.types)) (open_arcs g p n)) in ap (λ l. l ++ []) e)
    ∙ nothing (flat_map (routes_by g p (length g.types)) (open_arcs g p n)) ∙ sym (all_routes g is p n lt)
  where
    nothing : (rs : List Route) → rs ++ [] ≡ rs
    nothing [] = refl
    nothing (r ∷ rs) = ap (λ l. r ∷ l) (nothing rs)

-- the properties among some paths, one path more
properties_first : (g : GraphMap) (types : TypeTable) (p : Paths) (r : Route) (rs : List Route) → properties_of g types p (r ∷ []) ++ properties_of g types p rs ≡ properties_of g types p (r ∷ rs)
properties_first g types p r rs = by_test (is_value g types r) refl
  where
    by_test : (b : Bool) → is_value g types r ≡ b → properties_of g types p (r ∷ []) ++ properties_of g types p rs ≡ properties_of g types p (r ∷ rs)
    by_test true e = rw e refl
    by_test false e = rw e refl

-- what waits and what was found, once the path went along an arc
module _ (g : GraphMap) (is : IsGraph g) (p : Paths) (feats : ℕ) (path new : List ℕ) (w : Waiting) (ws : List Waiting) (h : AreWaiting (length g.types) feats path (w ∷ ws))
    (e : new ≡ take w.depth path ++ w.arc.feat.0 ∷ []) (depth : ℕ) (deep : depth ≡ length new) (rows : List Waiting) (rows_are : rows ≡ map (waits depth) (open_arcs g p w.arc.to.0) ++ ws) where
  rows_is : map (waits (length new)) (open_arcs g p w.arc.to.0) ++ ws ≡ rows
  rows_is = sym (rows_are ∙ ap (λ (d : ℕ). map (waits d) (open_arcs g p w.arc.to.0) ++ ws) deep)

  pub now_waiting : (types : TypeTable) → feats ≡ length p.feats → IsOf types p g → AreWaiting (length g.types) feats new rows
  now_waiting types count of_ = subst (AreWaiting (length g.types) feats new) rows_is (still_waiting g is p feats path new w ws h e types count of_)

  now_pending : pending g p (length g.types) path (w ∷ ws) ≡ record { path = new; end = w.arc.to.0 } ∷ pending g p (length g.types) new rows
  now_pending = visited g is p feats path new w ws h e (length g.types) refl ∙ ap (λ r. record { path = new; end = w.arc.to.0 } ∷ pending g p (length g.types) new r) rows_is

  pub now_fewer : length (pending g p (length g.types) path (w ∷ ws)) ≡ length (pending g p (length g.types) new rows) + 1
  now_fewer = let l = ap length now_pending in omega (arith, l)

  pub now_told : (types : TypeTable) (old found : List Property) → found ≡ old ++ properties_of g types p (record { path = new; end = w.arc.to.0 } ∷ [])
      → found ++ properties_of g types p (pending g p (length g.types) new rows) ≡ old ++ properties_of g types p (pending g p (length g.types) path (w ∷ ws))
  now_told types old found f =
      ap (λ l. l ++ properties_of g types p (pending g p (length g.types) new rows)) f
      ∙ append_assoc old (properties_of g types p (record { path = new; end = w.arc.to.0 } ∷ [])) (properties_of g types p (pending g p (length g.types) new rows))
      ∙ ap (λ l. old ++ l) (properties_first g types p (record { path = new; end = w.arc.to.0 }) (pending g p (length g.types) new rows) ∙ ap (properties_of g types p) (sym now_pending))

numbers_take : (d : ℕ) (fs : List Feat) → numbers_of (take d fs) ≡ take d (numbers_of fs)
numbers_take zero fs = refl
numbers_take (suc d) [] = refl
numbers_take (suc d) (f ∷ fs) = ap (λ l. f.0 ∷ l) (numbers_take d fs)

pub new_path : (old mid new : List Feat) (d : ℕ) (a : Feat) → mid ≡ take d old → new ≡ mid ++ a ∷ [] → numbers_of new ≡ take d (numbers_of old) ++ a.0 ∷ []
new_path old mid new d a m e = ap numbers_of e ∙ map_append (λ f. f.0) mid (a ∷ []) ∙ ap (λ l. numbers_of l ++ a.0 ∷ []) m ∙ ap (λ l. l ++ a.0 ∷ []) (numbers_take d old)

pub count_numbers : (fs : List Feat) → length (numbers_of fs) ≡ length fs
count_numbers [] = refl
count_numbers (f ∷ fs) = let e = count_numbers fs in omega (arith, e)

pub count_map : {A B : Type 0} (f : A → B) (xs : List A) → length (map f xs) ≡ length xs
count_map f [] = refl
count_map f (x ∷ xs) = let e = count_map f xs in omega (arith, e)

-- one arc more, from the end
drop_last : {A : Type 0} (xs : List A) (k : ℕ) (d : A) → k < length xs → drop k xs ≡ get_or xs k d ∷ drop (k + 1) xs
drop_last [] k d lt = absurd (omega (arith, lt))
drop_last (x ∷ xs) zero d lt = refl
drop_last (x ∷ xs) (suc k) d lt =
    let q : suc (k + 1) ≡ suc k + 1 = omega arith in
    drop_last xs k d (omega (arith, lt)) ∙ ap (λ (j : ℕ). get_or (x ∷ xs) (suc k) d ∷ drop j (x ∷ xs)) q

filter_cons : {A : Type 0} (q : A → Bool) (x : A) (xs : List A) → filter q (x ∷ []) ++ filter q xs ≡ filter q (x ∷ xs)
filter_cons q x xs = by_test (q x) refl
  where
    by_test : (b : Bool) → q x ≡ b → filter q (x ∷ []) ++ filter q xs ≡ filter q (x ∷ xs)
    by_test true e = rw e refl
    by_test false e = rw e refl

pub wait_more : (p : Paths) (arcs : List GraphArc) (depth k i : ℕ) (d : GraphArc) (old mid new : List Waiting) → k < length arcs → i ≡ length arcs - 1 - k
    → new ≡ map (waits depth) (filter (is_open p) (get_or arcs i d ∷ [])) ++ mid → mid ≡ map (waits depth) (filter (is_open p) (drop (length arcs - k) arcs)) ++ old
    → new ≡ map (waits depth) (filter (is_open p) (drop (length arcs - (k + 1)) arcs)) ++ old
wait_more p arcs depth k i d old mid new lt at e m =
    let one : List GraphArc = filter (is_open p) (get_or arcs i d ∷ []) in
    let rest : List GraphArc = filter (is_open p) (drop (length arcs - k) arcs) in
    let next : length arcs - (k + 1) ≡ i = omega (arith, lt, at) in
    let here : length arcs - k ≡ i + 1 = omega (arith, lt, at) in
    let inside : i < length arcs = omega (arith, lt, at) in
    let all : one ++ rest ≡ filter (is_open p) (drop (length arcs - (k + 1)) arcs)
    = ap (λ (j : ℕ). one ++ filter (is_open p) (drop j arcs)) here ∙ filter_cons (is_open p) (get_or arcs i d) (drop (i + 1) arcs)
    ∙ ap (filter (is_open p)) (sym (drop_last arcs i d inside)) ∙ ap (λ (j : ℕ). filter (is_open p) (drop j arcs)) (sym next) in
    e ∙ ap (λ l. map (waits depth) one ++ l) m ∙ sym (append_assoc (map (waits depth) one) (map (waits depth) rest) old)
    ∙ ap (λ l. l ++ old) (sym (map_append (waits depth) one rest)) ∙ ap (λ l. map (waits depth) l ++ old) all

in_at : {A : Type 0} (xs : List A) (k : ℕ) (d : A) → k < length xs → In (get_or xs k d) xs
in_at [] k d lt = absurd (omega (arith, lt))
in_at (x ∷ xs) zero d lt = inl refl
in_at (x ∷ xs) (suc k) d lt = inr (in_at xs k d (omega (arith, lt)))

pub arc_to_in : (g : GraphMap) (is : IsGraph g) (n k : ℕ) (arcs : List GraphArc) (d : GraphArc) → n < length g.types → arcs ≡ arcs_at g n → k < length arcs → (get_or arcs k d).to.0 < length g.types
arc_to_in g is n k arcs d ln e lt = arc_inside g is n (get_or arcs k d) ln (subst (In (get_or arcs k d)) e (in_at arcs k d lt))

pub reverse_last : {A : Type 0} (xs : List A) (x : A) → reverse (xs ++ x ∷ []) ≡ x ∷ reverse xs
reverse_last xs x = reverse-append xs (x ∷ [])

-- the arcs that are roles
pub role_firm : (g : GraphMap) (is : IsGraph g) (p : Paths) (n : ℕ) → n < length g.types → Firm (role_arcs g p n)
role_firm g is p n lt = firm_filter (λ a. is_role p a.feat.0) (arcs_at g n) (firm_of (arcs_at g n) (is.rises n lt))

pub role_feats : (g : GraphMap) (p : Paths) (types : TypeTable) (n : ℕ) → n < length g.types → IsOf types p g → (a : GraphArc) → In a (role_arcs g p n) → a.feat.0 < length p.feats
role_feats g p types n lt of_ a h = all_at (λ b. b.feat.0 < length p.feats) (arcs_at g n) a (of_.feats_in n lt) (of_filter (λ b. is_role p b.feat.0) a (arcs_at g n) h).0

-- one arc waits
pub waits_one : (p : Paths) (a : GraphArc) (depth : ℕ) (old new : List Waiting) → is_among p.skip_properties a.feat.0 ≡ false → new ≡ old ++ waits depth a ∷ [] → reverse new ≡ map (waits depth) (filter (is_open p) (a ∷ [])) ++ reverse old
waits_one p a depth old new e n = ap reverse n ∙ reverse_last old (waits depth a) ∙ (let z : waits depth a ∷ reverse old ≡ map (waits depth) (filter (is_open p) (a ∷ [])) ++ reverse old = rw e refl in z)
