-- Lists of M as they are walked, cell by cell.
use Rattle.std.proofs.Common.{ℕ, suc, ◌≡◌, ◌≢◌, ◌<◌, ◌≤◌, ◌+◌, ◌⊎◌, inl, inr, true, false, List, [], ◌∷◌, ◌++◌, length, map, take, drop, get_or, replicate, Option, Some, None, Ok, Err, refl, sym, ◌∙◌, ap, subst, arith, append_assoc, length-append, drop-cons}
use Rattle.std.specs.Prelude.{All}
use Rattle.std.proofs.lemmas.List.{append-nil, map-append, take_more, replicate_more, take-append-drop, length-map, length-take-le}
use Rattle.std.proofs.lemmas.List.Elements.{All-append, All-cons, All-nil}
use Rattle.std.proofs.lemmas.Bool.{eqb-true, eq-eqb}
use Rattle.type_hierarchy.specs.Table.{TypeTable}
use Rattle.fs_graph.specs.declared.graph.Node.{Node}
use Rattle.fs_graph.specs.GraphMap.{GraphMap, type_at}
use Rattle.mrs_places.specs.declared.paths.MrsFeat.{MrsFeat}
use Rattle.mrs_places.specs.declared.lists.Turn.TheVariants.{End, Open, Cell}
use Rattle.mrs_places.specs.Paths.{Feature, Paths, feature_of}
use Rattle.mrs_places.specs.Looking.{NamedPath, Sought, Place, Walks, at_last, at_null, is_open, no_rest, goes_on, and_more, all_there, step, follow, found, look, below}
use Rattle.mrs_places.specs.Looking.{is_number}
use Rattle.mrs_places.specs.declared.paths.NoMrs.{NoMrs}
use Rattle.mrs_places.specs.declared.paths.NoMrs.TheVariants.{Absent, NoMemory}
use Rattle.mrs_places.specs.Faults.{Names, IsMissing}
use Rattle.mrs_places.specs.Inner.Walked.{placed, cells_from, walk_end, nodes_of, Along, stays, further, after_cells, IsPassed, IsTurn}

-- one step of a path
pub follow_more : (g : GraphMap) (path : List MrsFeat) (k n : ℕ) (x : MrsFeat) → k < length path → x ≡ get_or path k x
    → follow g (map feature_of (drop k path)) (Some n) ≡ follow g (map feature_of (drop (k + 1) path)) (step g n (feature_of x))
follow_more g path k n x lt at = ap (λ l. follow g (map feature_of l) (Some n)) (drop-cons path k x lt) ∙ ap (λ y. follow g (map feature_of (drop (suc k) path)) (step g n (feature_of y))) (sym at)
    ∙ (let e : suc k ≡ k + 1 = omega arith in ap (λ j. follow g (map feature_of (drop j path)) (step g n (feature_of x))) e)

pub followed_none : (g : GraphMap) (fs : List Feature) → follow g fs None ≡ None
followed_none g [] = refl
followed_none g (f ∷ fs) = refl

-- a place that a list names as its end
pub number_is : (o : Option ℕ) (n : ℕ) → is_number o n ≡ true → o ≡ Some n
number_is None n e = absurd (cc)
number_is (Some m) n e = ap Some (eqb-true m n e)

pub number_is_not : (o : Option ℕ) (n : ℕ) → is_number o n ≡ false → o ≢ Some n
number_is_not None n e s = absurd (cc)
number_is_not (Some m) n e s =
    let same : m ≡ n = cc in
    let yes : is_number (Some m) n ≡ true = eq-eqb m n same in
    let no : true ≡ false = sym yes ∙ e in
    absurd (cc)

-- lists of places
pub placed_append : (path : ℕ → NamedPath) (k : ℕ) (xs ys : List ℕ) → placed path k (xs ++ ys) ≡ placed path k xs ++ placed path (k + length xs) ys
placed_append path k [] ys = let e : k ≡ k + 0 = omega arith in ap (λ j. placed path j ys) e
placed_append path k (x ∷ xs) ys =
    let e : (k + 1) + length xs ≡ k + suc (length xs) = omega arith in
    ap (λ l. record { node = x; path = path k } ∷ l) (placed_append path (k + 1) xs ys ∙ ap (λ j. placed path (k + 1) xs ++ placed path j ys) e)

pub placed_more : (path : ℕ → NamedPath) (ns : List ℕ) (n k : ℕ) → length ns ≡ k → placed path 0 (ns ++ n ∷ []) ≡ placed path 0 ns ++ record { node = n; path = path k } ∷ []
placed_more path ns n k e =
    let f : 0 + length ns ≡ k = omega (arith, e) in
    placed_append path 0 ns (n ∷ []) ∙ ap (λ j. placed path 0 ns ++ record { node = n; path = path j } ∷ []) f

pub after_more : (cs : List Place) (c : Place) (out : Sought (List Place)) → after_cells (cs ++ c ∷ []) out ≡ after_cells cs (and_more c out)
after_more [] c out = refl
after_more (d ∷ ds) c out = ap (and_more d) (after_more ds c out)

pub after_all : (cs : List Place) → after_cells cs (Ok []) ≡ Ok cs
after_all [] = refl
after_all (d ∷ ds) = ap (and_more d) (after_all ds)

pub after_fault : (cs : List Place) (path : NamedPath) → after_cells cs (Err path) ≡ Err path
after_fault [] path = refl
after_fault (d ∷ ds) path = ap (and_more d) (after_fault ds path)

rest_more : (path : NamedPath) (k : ℕ) (r : List ℕ) → (path ++ replicate k r) ++ r ∷ [] ≡ path ++ replicate (k + 1) r
rest_more path k r = append_assoc path (replicate k r) (r ∷ []) ∙ ap (λ l. path ++ l) (replicate_more k r)

arc_step : (g : GraphMap) (from k n m : ℕ) (f : Option ℕ) → Along g from k n → step g n (record { name = []; number = f }) ≡ Some m → Along g from (k + 1) m
arc_step g from k n m None a e = absurd (cc)
arc_step g from k n m (Some f) a e = further k n m f a e

pub step_along : (g : GraphMap) (from k n m : ℕ) (f : Feature) → Along g from k n → step g n f ≡ Some m → Along g from (k + 1) m
step_along g from k n m f a e = arc_step g from k n m f.number a e

pub passed_none : (g : GraphMap) (types : TypeTable) (p : Paths) (last : Option ℕ) (start : ℕ) (cells : List ℕ) → cells ≡ [] → IsPassed g types p last start cells start
passed_none g types p last start cells e = subst (λ c. IsPassed g types p last start c start) (sym e) (record {
  along = stays;
  back = λ path out w. subst (λ q. Walks g types p last (record { node = start; path = q }) out) (append-nil path) w;
})

pub passed_more : (g : GraphMap) (types : TypeTable) (p : Paths) (last : Option ℕ) (start node next : ℕ) (cells more : List ℕ) → more ≡ cells ++ node ∷ []
    → IsTurn g types p last node Cell → step g node p.rest ≡ Some next → IsPassed g types p last start cells node → IsPassed g types p last start more next
passed_more g types p last start node next cells more e t s h = subst (λ c. IsPassed g types p last start c next) (sym e) (record {
  along = subst (λ k. Along g start k next) (sym (length-append cells (node ∷ []))) (step_along g start (length cells) node next p.rest h.along s);
  back = λ path out w.
      let r = p.rest.name in
      let here : Walks g types p last (record { node = next; path = (path ++ replicate (length cells) r) ++ r ∷ [] }) out
      = subst (λ q. Walks g types p last (record { node = next; path = q }) out) (ap (λ k. path ++ replicate k r) (length-append cells (node ∷ [])) ∙ sym (rest_more path (length cells) r)) w in
      let back = h.back path _ (goes_on (record { node = node; path = path ++ replicate (length cells) r }) next out t.0 t.1 t.2 s here) in
      subst (λ q. Walks g types p last (record { node = start; path = path }) q)
      (sym (ap (λ l. after_cells l out) (placed_more (λ k. path ++ replicate k r) cells node (length cells) refl) ∙ after_more (cells_from r path cells) (record { node = node; path = path ++ replicate (length cells) r }) out)) back;
})

pub passed_end : (g : GraphMap) (types : TypeTable) (p : Paths) (last : Option ℕ) (start node : ℕ) (cells : List ℕ) → IsTurn g types p last node End → IsPassed g types p last start cells node
    → (path : NamedPath) → Walks g types p last (record { node = start; path = path }) (walk_end p.rest.name path cells true)
passed_end g types p last start node cells t h path = subst (λ q. Walks g types p last (record { node = start; path = path }) q) (after_all (cells_from p.rest.name path cells)) (h.back path (Ok []) (ending t))
  where
    ending : (last ≡ Some node) ⊎ (below types (type_at g node) p.null ≡ true) → Walks g types p last (record { node = node; path = path ++ replicate (length cells) p.rest.name }) (Ok [])
    ending (inl e) = at_last (record { node = node; path = path ++ replicate (length cells) p.rest.name }) e
    ending (inr e) = at_null (record { node = node; path = path ++ replicate (length cells) p.rest.name }) e

pub passed_open : (g : GraphMap) (types : TypeTable) (p : Paths) (last : Option ℕ) (start node : ℕ) (cells : List ℕ) → IsTurn g types p last node Open → IsPassed g types p last start cells node
    → (path : NamedPath) → Walks g types p last (record { node = start; path = path }) (walk_end p.rest.name path cells false)
passed_open g types p last start node cells t h path =
    subst (λ q. Walks g types p last (record { node = start; path = path }) q) (after_fault (cells_from p.rest.name path cells) (path ++ replicate (length cells) p.rest.name))
    (h.back path _ (is_open (record { node = node; path = path ++ replicate (length cells) p.rest.name }) t.0 t.1 t.2))

pub passed_no_rest : (g : GraphMap) (types : TypeTable) (p : Paths) (last : Option ℕ) (start node : ℕ) (cells more : List ℕ) → more ≡ cells ++ node ∷ [] → IsTurn g types p last node Cell → step g node p.rest ≡ None → IsPassed g types p last start cells node
    → (path : NamedPath) → Walks g types p last (record { node = start; path = path }) (walk_end p.rest.name path more false)
passed_no_rest g types p last start node cells more e t s h path =
    let r = p.rest.name in
    subst (λ q. Walks g types p last (record { node = start; path = path }) q)
    (after_fault (cells_from r path cells) ((path ++ replicate (length cells) r) ++ r ∷ []) ∙ ap Err (rest_more path (length cells) r ∙ sym (ap (λ k. path ++ replicate k r) (ap length e ∙ length-append cells (node ∷ [])))))
    (h.back path _ (no_rest (record { node = node; path = path ++ replicate (length cells) r }) t.0 t.1 t.2 s))

-- all are there as far as was looked
more_there : {A : Type 0} (a : A) (o q : Sought (List A)) (xs : List A) (x : A) → ((ys : List A) → o ≡ Ok ys → q ≡ Ok (ys ++ x ∷ [])) → and_more a o ≡ Ok xs → and_more a q ≡ Ok (xs ++ x ∷ [])
more_there a (Err path) q xs x h t = absurd (cc)
more_there a (Ok ys) q xs x h t = ap (and_more a) (h ys refl) ∙ ap (λ l. Ok (l ++ x ∷ [])) (let z : a ∷ ys ≡ xs = cc in z)

pub there_more : {A : Type 0} (rs : List (Sought A)) (xs : List A) (x : A) → all_there rs ≡ Ok xs → all_there (rs ++ Ok x ∷ []) ≡ Ok (xs ++ x ∷ [])
there_more [] xs x e = let z : [] ≡ xs = cc in ap (λ l. Ok (l ++ x ∷ [])) z
there_more (Err path ∷ rs) xs x e = absurd (cc)
there_more (Ok a ∷ rs) xs x e = more_there a (all_there rs) (all_there (rs ++ Ok x ∷ [])) xs x (λ ys s. there_more rs ys x s) e

stops_there : {A : Type 0} (a : A) (o q : Sought (List A)) (xs : List A) (path : NamedPath) → ((ys : List A) → o ≡ Ok ys → q ≡ Err path) → and_more a o ≡ Ok xs → and_more a q ≡ Err path
stops_there a (Err other) q xs path h t = absurd (cc)
stops_there a (Ok ys) q xs path h t = ap (and_more a) (h ys refl)

pub there_stops : {A : Type 0} (rs more : List (Sought A)) (xs : List A) (path : NamedPath) → all_there rs ≡ Ok xs → all_there (rs ++ Err path ∷ more) ≡ Err path
there_stops [] more xs path e = refl
there_stops (Err other ∷ rs) more xs path e = absurd (cc)
there_stops (Ok a ∷ rs) more xs path e = stops_there a (all_there rs) (all_there (rs ++ Err path ∷ more)) xs path (λ ys s. there_stops rs more ys path s) e

-- one feature further
pub look_one : (g : GraphMap) (n m : ℕ) (path : NamedPath) (f : Feature) → step g n f ≡ Some m → look g (record { node = n; path = path }) (f ∷ []) ≡ Ok (record { node = m; path = path ++ f.name ∷ [] })
look_one g n m path f e = ap (λ o. found (path ++ f.name ∷ []) (follow g [] o)) e

pub look_none : (g : GraphMap) (n : ℕ) (path : NamedPath) (f : Feature) → step g n f ≡ None → look g (record { node = n; path = path }) (f ∷ []) ≡ Err (path ++ f.name ∷ [])
look_none g n path f e = ap (λ o. found (path ++ f.name ∷ []) (follow g [] o)) e

-- an answer that names what is missing
pub missing_is : {A : Type 0} (said : Sought A → Type 0) (path : NamedPath) (e : NoMrs) → Names path e → said (Err path) → IsMissing said e
missing_is said path (Absent named) n h = subst (λ q. said (Err q)) (sym n) h
missing_is said path NoMemory n h = tt

pub nodes_more : (xs : List Node) (k : ℕ) (d : Node) → k < length xs → nodes_of (take (k + 1) xs) ≡ nodes_of (take k xs) ++ (get_or xs k d).0 ∷ []
nodes_more xs k d lt = ap nodes_of (take_more xs k d lt) ∙ map-append (λ n. n.0) (take k xs) (get_or xs k d ∷ [])

pub nodes_split : (xs : List Node) (k : ℕ) (d : Node) → k < length xs → nodes_of xs ≡ nodes_of (take k xs) ++ (get_or xs k d).0 ∷ nodes_of (drop (suc k) xs)
nodes_split xs k d lt =
    ap nodes_of (sym (take-append-drop k xs) ∙ ap (λ l. take k xs ++ l) (drop-cons xs k d lt))
    ∙ map-append (λ n. n.0) (take k xs) (get_or xs k d ∷ drop (suc k) xs)

pub nodes_length : (xs : List Node) (k : ℕ) → k ≤ length xs → length (nodes_of (take k xs)) ≡ k
nodes_length xs k le = length-map (take k xs) (λ n. n.0) ∙ length-take-le k xs le

-- what was looked for at the first of some nodes, and at one more
pub looked_more : {A : Type 0} (at : Place → Sought A) (path : ℕ → NamedPath) (ns : List Node) (k : ℕ) (d : Node) (xs : List A) (x : A) → k < length ns
    → at (record { node = (get_or ns k d).0; path = path k }) ≡ Ok x → all_there (map at (placed path 0 (nodes_of (take k ns)))) ≡ Ok xs → all_there (map at (placed path 0 (nodes_of (take (k + 1) ns)))) ≡ Ok (xs ++ x ∷ [])
looked_more at path ns k d xs x lt here before =
    let l : k ≤ length ns = omega (arith, lt) in
    ap (λ l. all_there (map at (placed path 0 l))) (nodes_more ns k d lt)
    ∙ ap (λ l. all_there (map at l)) (placed_more path (nodes_of (take k ns)) (get_or ns k d).0 k (nodes_length ns k l))
    ∙ ap all_there (map-append at (placed path 0 (nodes_of (take k ns))) (record { node = (get_or ns k d).0; path = path k } ∷ []))
    ∙ ap (λ r. all_there (map at (placed path 0 (nodes_of (take k ns))) ++ r ∷ [])) here
    ∙ there_more (map at (placed path 0 (nodes_of (take k ns)))) xs x before

pub looked_stops : {A : Type 0} (at : Place → Sought A) (path : ℕ → NamedPath) (ns : List Node) (k : ℕ) (d : Node) (xs : List A) (end : NamedPath) → k < length ns
    → at (record { node = (get_or ns k d).0; path = path k }) ≡ Err end → all_there (map at (placed path 0 (nodes_of (take k ns)))) ≡ Ok xs → all_there (map at (placed path 0 (nodes_of ns))) ≡ Err end
looked_stops at path ns k d xs end lt here before =
    let l : k ≤ length ns = omega (arith, lt) in
    let n = (get_or ns k d).0 in
    let before_k = placed path 0 (nodes_of (take k ns)) in
    let after = placed path (k + 1) (nodes_of (drop (suc k) ns)) in
    let j : 0 + length (nodes_of (take k ns)) ≡ k = omega (arith, nodes_length ns k l) in
    ap (λ l. all_there (map at (placed path 0 l))) (nodes_split ns k d lt)
    ∙ ap (λ l. all_there (map at l)) (placed_append path 0 (nodes_of (take k ns)) (n ∷ nodes_of (drop (suc k) ns)))
    ∙ ap (λ i. all_there (map at (before_k ++ placed path i (n ∷ nodes_of (drop (suc k) ns))))) j
    ∙ ap all_there (map-append at before_k (record { node = n; path = path k } ∷ after))
    ∙ ap (λ r. all_there (map at before_k ++ r ∷ map at after)) here
    ∙ there_stops (map at before_k) (map at after) xs end before

pub nodes_push : (new old : List Node) (n : Node) → new ≡ old ++ n ∷ [] → nodes_of new ≡ nodes_of old ++ n.0 ∷ []
nodes_push new old n e = ap nodes_of e ∙ map-append (λ k. k.0) old (n ∷ [])

pub all_more : {X : Type 0} (P : X → Type 0) (new old : List X) (x : X) → new ≡ old ++ x ∷ [] → All P old → P x → All P new
all_more P new old x e h p = subst (All P) (sym e) (All-append P old (x ∷ []) h (All-cons P x [] p (All-nil P)))

pub one_longer : {X : Type 0} (new old : List X) (x : X) (k : ℕ) → new ≡ old ++ x ∷ [] → length old ≡ k → length new ≡ k + 1
one_longer new old x k e l = let f : length new ≡ length (old ++ x ∷ []) = ap length e in let a = length-append old (x ∷ []) in omega (arith, f, a, l)
