-- Names of paths, and the properties that stand at their ends.
use Rattle.std.proofs.Common.{ℕ, zero, suc, ◌≡◌, ◌≢◌, ◌<◌, inl, inr, ◌↔◌, Bool, true, false, List, [], ◌∷◌, ◌++◌, length, map, get_or, refl, sym, ◌∙◌, ap, subst, arith}
use Rattle.std.specs.Prelude.{Contains, filter, not, ◌==◌, ◌&&◌}
use Rattle.std.specs.List.{flat_map, IsDistinct, AllByRecursion}
use Rattle.std.specs.Str.{bytes_eq}
use Rattle.std.proofs.lemmas.Bool.{eqb-true}
use Rattle.std.proofs.lemmas.Slice.Eq.{bytes_eq-Decides}
use Rattle.fs_graph.specs.declared.graph.GraphArc.{GraphArc}
use Rattle.fs_graph.specs.GraphMap.{GraphMap, IsGraph, arcs_at, type_at}
use Rattle.type_hierarchy.specs.Table.{TypeTable}
use Rattle.mrs_model.specs.Meanings.{Property}
use Rattle.mrs_places.specs.Paths.{Paths}
use Rattle.mrs_extract.specs.Asked.{ArePaths, IsOf}
use Rattle.mrs_extract.specs.Extraction.{open_arcs, feature_name, type_name, is_string, IsValueAt, IsPropertyAt, ends, goes_on}
use Rattle.mrs_extract.specs.Inner.Routes.{Route, under, routes, routes_by, joined, is_value, property_at, properties_of}
use Rattle.mrs_extract.proofs.Lists.{In, in_of, contains_of, in_map, of_map, in_flat, of_flat, in_filter, of_filter, all_at, Firm, Apart, apart_append, apart_map}
use Rattle.mrs_extract.proofs.Sorting.{distinct_none, distinct_more}
use Rattle.mrs_extract.proofs.Spreading.{arc_inside, open_arc, open_firm, all_routes}

-- Names without dots

abbrev NoDot : List ℕ → Type 0
NoDot [] = Unit {0}
NoDot (c ∷ cs) = (c ≢ 46) × NoDot cs

no_dot_of : (cs : List ℕ) → (In 46 cs → ⊥) → NoDot cs
no_dot_of [] h = tt
no_dot_of (c ∷ cs) h = ((λ e. h (inl (sym e))), no_dot_of cs (λ k. h (inr k)))

-- nothing more, or a dot first
abbrev IsTail : List ℕ → Type 0
IsTail [] = Unit {0}
IsTail (c ∷ cs) = c ≡ 46

head_is : (a b : ℕ) (as_ bs : List ℕ) → a ∷ as_ ≡ b ∷ bs → (a ≡ b) × (as_ ≡ bs)
head_is a b as_ bs e = (let f : a ≡ b = cc in f, let f : as_ ≡ bs = cc in f)

split : (a b x y : List ℕ) → NoDot a → NoDot b → IsTail x → IsTail y → a ++ x ≡ b ++ y → (a ≡ b) × (x ≡ y)
split [] [] x y da db tx ty e = (refl, e)
split [] (b ∷ bs) [] y da db tx ty e = absurd (let f : [] ≡ b ∷ (bs ++ y) = e in cc)
split [] (b ∷ bs) (c ∷ cs) y da db tx ty e = let h = head_is c b cs (bs ++ y) e in absurd (db.0 (sym h.0 ∙ tx))
split (a ∷ as_) [] x [] da db tx ty e = absurd (let f : a ∷ (as_ ++ x) ≡ [] = e in cc)
split (a ∷ as_) [] x (c ∷ cs) da db tx ty e = let h = head_is a c (as_ ++ x) cs e in absurd (da.0 (h.0 ∙ ty))
split (a ∷ as_) (b ∷ bs) x y da db tx ty e =
    let h = head_is a b (as_ ++ x) (bs ++ y) e in
    let r = split as_ bs x y da.1 db.1 tx ty h.1 in
    (λ i. h.0 i ∷ r.0 i, r.1)

abbrev tail : Paths → List ℕ → List ℕ
tail p [] = []
tail p (f ∷ fs) = 46 ∷ joined p (f ∷ fs)

joined_is : (p : Paths) (f : ℕ) (fs : List ℕ) → joined p (f ∷ fs) ≡ feature_name p f ++ tail p fs
joined_is p f [] = nothing (feature_name p f)
  where
    nothing : (xs : List ℕ) → xs ≡ xs ++ []
    nothing [] = refl
    nothing (x ∷ xs) = ap (λ l. x ∷ l) (nothing xs)
joined_is p f (g ∷ fs) = refl

tail_is : (p : Paths) (fs : List ℕ) → IsTail (tail p fs)
tail_is p [] = tt
tail_is p (f ∷ fs) = refl

-- one feature more
pub joined_more : (p : Paths) (f : ℕ) (fs : List ℕ) (g : ℕ) → joined p ((f ∷ fs) ++ g ∷ []) ≡ joined p (f ∷ fs) ++ 46 ∷ feature_name p g
joined_more p f [] g = refl
joined_more p f (h ∷ fs) g =
    ap (λ l. feature_name p f ++ 46 ∷ l) (joined_more p h fs g) ∙ sym (assoc (feature_name p f) (46 ∷ joined p (h ∷ fs)) (46 ∷ feature_name p g))
  where
    assoc : (a b c : List ℕ) → (a ++ b) ++ c ≡ a ++ (b ++ c)
    assoc [] b c = refl
    assoc (x ∷ a) b c = ap (λ l. x ∷ l) (assoc a b c)

abbrev pub AreIn : ℕ → List ℕ → Type 0
AreIn n [] = Unit {0}
AreIn n (f ∷ fs) = (f < n) × AreIn n fs

module _ (types : TypeTable) (p : Paths) (named : ArePaths types p) where
  name_in : (f : ℕ) → f < length p.feats → In (feature_name p f) p.feats
  name_in f lt = at p.feats f lt
    where
      at : (xs : List (List ℕ)) (k : ℕ) → k < length xs → In (get_or xs k []) xs
      at [] k l = absurd (omega (arith, l))
      at (x ∷ xs) zero l = inl refl
      at (x ∷ xs) (suc k) l = inr (at xs k (omega (arith, l)))

  dotless : (f : ℕ) → f < length p.feats → NoDot (feature_name p f)
  dotless f lt = no_dot_of (feature_name p f) (λ h. all_at (λ n. Contains n 46 → ⊥) p.feats (feature_name p f) named.no_dots (name_in f lt) (contains_of (feature_name p f) 46 h))

  heads : (a b : List ℕ) (f h : ℕ) → f < length p.feats → h < length p.feats → joined p (f ∷ a) ≡ joined p (h ∷ b) → (f ≡ h) × (tail p a ≡ tail p b)
  heads a b f h lf lh e =
      let s = split (feature_name p f) (feature_name p h) (tail p a) (tail p b) (dotless f lf) (dotless h lh) (tail_is p a) (tail_is p b) (sym (joined_is p f a) ∙ e ∙ joined_is p h b) in
      (named.differ f h lf lh s.0, s.1)

  pub joined_one : (a b : List ℕ) (f h : ℕ) → AreIn (length p.feats) (f ∷ a) → AreIn (length p.feats) (h ∷ b) → joined p (f ∷ a) ≡ joined p (h ∷ b) → f ∷ a ≡ h ∷ b
  joined_one [] [] f h fa hb e = let s = heads [] [] f h fa.0 hb.0 e in λ i. s.0 i ∷ []
  joined_one [] (y ∷ b) f h fa hb e = absurd (let s = heads [] (y ∷ b) f h fa.0 hb.0 e in let r : [] ≡ 46 ∷ joined p (y ∷ b) = s.1 in cc)
  joined_one (x ∷ a) [] f h fa hb e = absurd (let s = heads (x ∷ a) [] f h fa.0 hb.0 e in let r : 46 ∷ joined p (x ∷ a) ≡ [] = s.1 in cc)
  joined_one (x ∷ a) (y ∷ b) f h fa hb e =
      let s = heads (x ∷ a) (y ∷ b) f h fa.0 hb.0 e in
      let rest = joined_one a b x y fa.1 hb.1 (head_is 46 46 (joined p (x ∷ a)) (joined p (y ∷ b)) s.1).1 in
      λ i. s.0 i ∷ rest i

-- Routes

-- a route has a first feature
record Begins (r : Route) : Type 0 where
  first : ℕ
  rest : List ℕ
  is : r.path ≡ first ∷ rest

begins_by : (g : GraphMap) (p : Paths) (k : ℕ) (a : GraphArc) (r : Route) → In r (routes_by g p k a) → (rest : List ℕ) × (r.path ≡ a.feat.0 ∷ rest)
begins_by g p k a r (inl e) = ([], ap (λ x. x.path) e)
begins_by g p k a r (inr h) = let q = of_map (under (a.feat.0 ∷ [])) r (routes g p k a.to.0) h in (q.0.path, ap (λ x. x.path) q.2)

begins : (g : GraphMap) (p : Paths) (k n : ℕ) (r : Route) → In r (routes g p k n) → Begins r
begins g p zero n r h = absurd h
begins g p (suc k) n r h =
    let q = of_flat (routes_by g p k) r (open_arcs g p n) h in
    let b = begins_by g p k q.0 r q.2 in
    record { first = q.0.feat.0; rest = b.0; is = b.1 }

-- what a route is that begins with an arc
data ByArc (g : GraphMap) (p : Paths) (k : ℕ) (a : GraphArc) : Route → Type 0 where
  alone : ByArc g p k a (record { path = a.feat.0 ∷ []; end = a.to.0 })
  longer : (r : Route) → In r (routes g p k a.to.0) → ByArc g p k a (under (a.feat.0 ∷ []) r)

by_arc : (g : GraphMap) (p : Paths) (k : ℕ) (a : GraphArc) (r : Route) → In r (routes_by g p k a) → ByArc g p k a r
by_arc g p k a r (inl e) = subst (ByArc g p k a) (sym e) alone
by_arc g p k a r (inr h) = let q = of_map (under (a.feat.0 ∷ [])) r (routes g p k a.to.0) h in subst (ByArc g p k a) (sym q.2) (longer q.0 q.1)

joined_under : (p : Paths) (f : ℕ) (r : Route) → Begins r → joined p (f ∷ r.path) ≡ feature_name p f ++ 46 ∷ joined p r.path
joined_under p f r b = subst (λ q. joined p (f ∷ q) ≡ feature_name p f ++ 46 ∷ joined p q) (sym b.is) refl

empty_of : {A : Type 0} (xs : List A) → (length xs == 0) ≡ true → xs ≡ []
empty_of [] e = refl
empty_of (x ∷ xs) e = let z = eqb-true (length (x ∷ xs)) 0 e in absurd (omega (arith, z))

and_left : (a b : Bool) → (a && b) ≡ true → a ≡ true
and_left true b e = refl
and_left false b e = e

and_right : (a b : Bool) → (a && b) ≡ true → b ≡ true
and_right true b e = e
and_right false b e = absurd (let z : false ≡ true = e in cc)

not_true : (b : Bool) → not b ≡ true → b ≡ false
not_true true e = absurd (let z : false ≡ true = e in cc)
not_true false e = refl

module _ (g : GraphMap) (types : TypeTable) (p : Paths) where
  value_of : (r : Route) → is_value g types r ≡ true → IsValueAt g types r.end (type_name types (type_at g r.end))
  value_of r e = record {
    bare = empty_of (arcs_at g r.end) (and_left (length (arcs_at g r.end) == 0) (not (is_string types (type_at g r.end))) e);
    typed = not_true (is_string types (type_at g r.end)) (and_right (length (arcs_at g r.end) == 0) (not (is_string types (type_at g r.end))) e);
    named = refl;
  }

  sound_by : (k n : ℕ) (a : GraphArc) (r : Route) → In a (open_arcs g p n) → ((s : Route) → In s (routes g p k a.to.0) → is_value g types s ≡ true → IsPropertyAt g types p a.to.0 (joined p s.path) (type_name types (type_at g s.end)))
      → ByArc g p k a r → is_value g types r ≡ true → IsPropertyAt g types p n (joined p r.path) (type_name types (type_at g r.end))
  sound_by k n a _ h more alone e = ends n a (type_name types (type_at g a.to.0)) (contains_of (open_arcs g p n) a h) (value_of (record { path = a.feat.0 ∷ []; end = a.to.0 }) e)
  sound_by k n a _ h more (longer r i) e =
      subst (λ q. IsPropertyAt g types p n q (type_name types (type_at g r.end))) (sym (joined_under p a.feat.0 r (begins g p k a.to.0 r i)))
      (goes_on n a (joined p r.path) (type_name types (type_at g r.end)) (contains_of (open_arcs g p n) a h) (more r i e))

  sound : (k n : ℕ) (r : Route) → In r (routes g p k n) → is_value g types r ≡ true → IsPropertyAt g types p n (joined p r.path) (type_name types (type_at g r.end))
  sound zero n r h e = absurd h
  sound (suc k) n r h e =
      let q = of_flat (routes_by g p k) r (open_arcs g p n) h in
      sound_by k n q.0 r q.1 (sound k q.0.to.0) (by_arc g p k q.0 r q.2) e

  -- what stands for a property
  record Stands (k n : ℕ) (name value : List ℕ) : Type 0 where
    route : Route
    there : In route (routes g p k n)
    ends_well : is_value g types route ≡ true
    named : joined p route.path ≡ name
    valued : type_name types (type_at g route.end) ≡ value

  value_is : (n : ℕ) (path value : List ℕ) → IsValueAt g types n value → is_value g types (record { path = path; end = n }) ≡ true
  value_is n path value v = rw (v.bare, v.typed) refl

  module _ (is : IsGraph g) where
    complete : (n : ℕ) (name value : List ℕ) → n < length g.types → IsPropertyAt g types p n name value → Stands (length g.types) n name value
    complete n _ _ lt (ends _ a value c v) =
        let r : Route = record { path = a.feat.0 ∷ []; end = a.to.0 } in
        record {
          route = r;
          there = subst (In r) (sym (all_routes g is p n lt)) (in_flat (routes_by g p (length g.types)) a r (open_arcs g p n) (in_of (open_arcs g p n) a c) (inl refl));
          ends_well = value_is a.to.0 (a.feat.0 ∷ []) value v;
          named = refl;
          valued = sym v.named;
        }
    complete n _ _ lt (goes_on _ a name value c q) =
        let inside = arc_inside g is n a lt (open_arc g is p n a (in_of (open_arcs g p n) a c)) in
        let s = complete a.to.0 name value inside q in
        let r : Route = under (a.feat.0 ∷ []) s.route in
        record {
          route = r;
          there = subst (In r) (sym (all_routes g is p n lt)) (in_flat (routes_by g p (length g.types)) a r (open_arcs g p n) (in_of (open_arcs g p n) a c)
              (inr (in_map (under (a.feat.0 ∷ [])) s.route (routes g p (length g.types) a.to.0) s.there)));
          ends_well = s.ends_well;
          named = joined_under p a.feat.0 s.route (begins g p (length g.types) a.to.0 s.route s.there) ∙ ap (λ l. feature_name p a.feat.0 ++ 46 ∷ l) s.named;
          valued = s.valued;
        }

    pub are_properties : (n : ℕ) → n < length g.types → (q : Property) → In q (properties_of g types p (routes g p (length g.types) n)) ↔ IsPropertyAt g types p n q.name q.value
    are_properties n lt q = (
      (λ h. (let m = of_map (property_at g types p) q (filter (is_value g types) (routes g p (length g.types) n)) h in
          let f = of_filter (is_value g types) m.0 (routes g p (length g.types) n) m.1 in
          subst (λ z. IsPropertyAt g types p n z.name z.value) (sym m.2) (sound (length g.types) n m.0 f.0 f.1))),
      (λ h. (let s = complete n q.name q.value lt h in
          let e : property_at g types p s.route ≡ q = (λ i. record { name = s.named i; value = s.valued i }) in
          subst (λ z. In z (properties_of g types p (routes g p (length g.types) n))) e
          (in_map (property_at g types p) s.route (filter (is_value g types) (routes g p (length g.types) n)) (in_filter (is_value g types) s.route (routes g p (length g.types) n) s.there s.ends_well)))),
    )

    -- no path stands twice
    abbrev paths : List Route → List (List ℕ)
    paths rs = map (λ r. r.path) rs

    paths_append : (a b : List Route) → paths (a ++ b) ≡ paths a ++ paths b
    paths_append [] b = refl
    paths_append (r ∷ a) b = ap (λ l. r.path ∷ l) (paths_append a b)

    paths_under : (f : ℕ) (rs : List Route) → paths (map (under (f ∷ [])) rs) ≡ map (λ q. f ∷ q) (paths rs)
    paths_under f [] = refl
    paths_under f (r ∷ rs) = ap (λ l. (f ∷ r.path) ∷ l) (paths_under f rs)

    cons_one : (f : ℕ) (x y : List ℕ) → f ∷ x ≡ f ∷ y → x ≡ y
    cons_one f x y e = (head_is f f x y e).1

    apart_by : (k : ℕ) (a : GraphArc) → Apart (paths (routes g p k a.to.0)) → Apart (paths (routes_by g p k a))
    apart_by k a h = (none, subst Apart (sym (paths_under a.feat.0 (routes g p k a.to.0))) (apart_map (λ q. a.feat.0 ∷ q) (paths (routes g p k a.to.0)) (cons_one a.feat.0) h))
      where
        none : In (a.feat.0 ∷ []) (paths (map (under (a.feat.0 ∷ [])) (routes g p k a.to.0))) → ⊥
        none i =
            let m = of_map (λ r. r.path) (a.feat.0 ∷ []) (map (under (a.feat.0 ∷ [])) (routes g p k a.to.0)) i in
            let u = of_map (under (a.feat.0 ∷ [])) m.0 (routes g p k a.to.0) m.1 in
            let b = begins g p k a.to.0 u.0 u.1 in
            let e : [] ≡ u.0.path = (head_is a.feat.0 a.feat.0 [] u.0.path (m.2 ∙ ap (λ r. r.path) u.2)).1 in
            let z : [] ≡ b.first ∷ b.rest = e ∙ b.is in
            cc

    in_paths_by : (k : ℕ) (a : GraphArc) (x : List ℕ) → In x (paths (routes_by g p k a)) → (rest : List ℕ) × (x ≡ a.feat.0 ∷ rest)
    in_paths_by k a x h =
        let m = of_map (λ r. r.path) x (routes_by g p k a) h in
        let b = begins_by g p k a m.0 m.1 in
        (b.0, m.2 ∙ b.1)

    in_paths_of : (k : ℕ) (arcs : List GraphArc) (x : List ℕ) → In x (paths (flat_map (routes_by g p k) arcs)) → (b : GraphArc) × In b arcs × (rest : List ℕ) × (x ≡ b.feat.0 ∷ rest)
    in_paths_of k arcs x h =
        let m = of_map (λ r. r.path) x (flat_map (routes_by g p k) arcs) h in
        let q = of_flat (routes_by g p k) m.0 arcs m.1 in
        let b = begins_by g p k q.0 m.0 q.2 in
        (q.0, q.1, b.0, m.2 ∙ b.1)

    apart_all : (k : ℕ) (arcs : List GraphArc) → Firm arcs → ((a : GraphArc) → In a arcs → Apart (paths (routes g p k a.to.0))) → Apart (paths (flat_map (routes_by g p k) arcs))
    apart_all k [] f h = tt
    apart_all k (a ∷ arcs) f h =
        subst Apart (sym (paths_append (routes_by g p k a) (flat_map (routes_by g p k) arcs)))
        (apart_append (paths (routes_by g p k a)) (paths (flat_map (routes_by g p k) arcs)) (apart_by k a (h a (inl refl))) (apart_all k arcs f.1 (λ b i. h b (inr i)))
        (λ x i j. (let s = in_paths_by k a x i in
        let t = in_paths_of k arcs x j in
        let e = (head_is a.feat.0 t.0.feat.0 s.0 t.2 (sym s.1 ∙ t.3)).0 in
        let l = f.0 t.0 t.1 in
        absurd (omega (arith, e, l)))))

    apart_routes : (k n : ℕ) → n < length g.types → Apart (paths (routes g p k n))
    apart_routes zero n lt = tt
    apart_routes (suc k) n lt = apart_all k (open_arcs g p n) (open_firm g is p n lt) (λ a h. apart_routes k a.to.0 (arc_inside g is n a lt (open_arc g is p n a h)))

    -- the features of routes are the grammar's
    in_range_by : (k n : ℕ) (a : GraphArc) (r : Route) → a.feat.0 < length p.feats → ((s : Route) → In s (routes g p k a.to.0) → AreIn (length p.feats) s.path) → ByArc g p k a r → AreIn (length p.feats) r.path
    in_range_by k n a _ lt more alone = (lt, tt)
    in_range_by k n a _ lt more (longer r i) = (lt, more r i)

    in_range : IsOf types p g → (k n : ℕ) (r : Route) → n < length g.types → In r (routes g p k n) → AreIn (length p.feats) r.path
    in_range of_ zero n r lt h = absurd h
    in_range of_ (suc k) n r lt h =
        let q = of_flat (routes_by g p k) r (open_arcs g p n) h in
        let arc = open_arc g is p n q.0 q.1 in
        in_range_by k n q.0 r (all_at (λ a. a.feat.0 < length p.feats) (arcs_at g n) q.0 (of_.feats_in n lt) arc)
        (λ s i. in_range of_ k q.0.to.0 s (arc_inside g is n q.0 lt arc) i) (by_arc g p k q.0 r q.2)

    names_differ : ArePaths types p → (rs : List Route) → ((r : Route) → In r rs → AreIn (length p.feats) r.path × Begins r) → Apart (paths rs) → IsDistinct bytes_eq (map (λ q. q.name) (properties_of g types p rs))
    names_differ named [] h a = distinct_none
    names_differ named (r ∷ rs) h a = by_test (is_value g types r) refl (names_differ named rs (λ s i. h s (inr i)) a.1)
      where
        others : (ss : List Route) → ((s : Route) → In s ss → In s rs) → AllByRecursion (λ y. bytes_eq (joined p r.path) y ≡ false) (map (λ q. q.name) (map (property_at g types p) ss))
        others [] sub = tt
        others (s ∷ ss) sub = (differs (bytes_eq (joined p r.path) (joined p s.path)) refl, others ss (λ t i. sub t (inr i)))
          where
            differs : (b : Bool) → bytes_eq (joined p r.path) (joined p s.path) ≡ b → b ≡ false
            differs false e = refl
            differs true e =
                let same : joined p r.path ≡ joined p s.path = (bytes_eq-Decides (joined p r.path) (joined p s.path)).0 e in
                let x = h r (inl refl) in
                let there = sub s (inl refl) in
                let y = h s (inr there) in
                let one = joined_one types p named x.1.rest y.1.rest x.1.first y.1.first (subst (AreIn (length p.feats)) x.1.is x.0) (subst (AreIn (length p.feats)) y.1.is y.0)
                (subst (λ q. joined p q ≡ joined p (y.1.first ∷ y.1.rest)) x.1.is (subst (λ q. joined p r.path ≡ joined p q) y.1.is same)) in
                let paths_same : r.path ≡ s.path = x.1.is ∙ one ∙ sym y.1.is in
                absurd (a.0 (subst (λ q. In q (paths rs)) (sym paths_same) (in_map (λ t. t.path) s rs there)))

        by_test : (b : Bool) → is_value g types r ≡ b → IsDistinct bytes_eq (map (λ q. q.name) (properties_of g types p rs)) → IsDistinct bytes_eq (map (λ q. q.name) (properties_of g types p (r ∷ rs)))
        by_test false e k = rw e k
        by_test true e k = rw e (distinct_more (joined p r.path) (map (λ q. q.name) (properties_of g types p rs)) (others (filter (is_value g types) rs) (λ s i. (of_filter (is_value g types) s rs i).0)) k)

    pub properties_differ : ArePaths types p → IsOf types p g → (n : ℕ) → n < length g.types → IsDistinct bytes_eq (map (λ q. q.name) (properties_of g types p (routes g p (length g.types) n)))
    properties_differ named of_ n lt =
        names_differ named (routes g p (length g.types) n) (λ r i. (in_range of_ (length g.types) n r lt i, begins g p (length g.types) n r i)) (apart_routes (length g.types) n lt)
