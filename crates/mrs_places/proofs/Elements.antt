-- The elements of a list of M, and their parts.
use Rattle.std.proofs.Common.{ℕ, ◌≡◌, ◌<◌, ◌+◌, List, [], ◌∷◌, ◌++◌, length, map, take, get_or, replicate, Option, Some, None, Result, Ok, Err, IsErrAnd, refl, sym, ◌∙◌, ap, subst, append_assoc}
use Rattle.std.specs.Prelude.{option_map, is_some, Bool, true, false}
use Rattle.std.proofs.lemmas.List.{append-nil, map-append, length-map}
use Rattle.type_hierarchy.specs.Table.{TypeTable}
use Rattle.fs_graph.specs.declared.graph.Node.{Node}
use Rattle.fs_graph.specs.GraphMap.{GraphMap}
use Rattle.mrs_places.specs.declared.paths.MrsFeat.{MrsFeat}
use Rattle.mrs_places.specs.declared.paths.MrsPaths.{MrsPaths}
use Rattle.mrs_places.specs.declared.paths.NoMrs.{NoMrs}
use Rattle.mrs_places.specs.declared.paths.NoMrs.TheVariants.{Absent, NoMemory}
use Rattle.mrs_places.specs.declared.lists.Element.{Element}
use Rattle.mrs_places.specs.Paths.{Feature, Paths, feature_of, paths_of}
use Rattle.mrs_places.specs.Looking.{NamedPath, Sought, Place, Pair, Walks, Elements, no_list, no_start, walked, MayElements, has_none, has_some, Then, stops, leads, chain, all_there, step, found, follow, look, look_pair, pairs_in, names, IsAt, Parts, root, LooksAtLists, Looks}
use Rattle.mrs_places.specs.Faults.{Names, IsMissing, Tells}
use Rattle.mrs_places.specs.Inner.Walked.{placed, mrs_place, start_path, cell_path, element_path, walk_end, nodes_of}
use Rattle.mrs_places.specs.Places.{pair_of, pairs_of}
use Rattle.mrs_places.proofs.Walking.{placed_more, look_one, look_none, missing_is, looked_more, looked_stops, nodes_push}

-- FIRST of one cell more
pub first_more : (g : GraphMap) (p : Paths) (list : Feature) (ns : List Node) (k : ℕ) (d x : Node) (old new : List Node) → k < length ns → step g (get_or ns k d).0 p.first ≡ Some x.0 → new ≡ old ++ x ∷ [] → length old ≡ k
    → all_there (map (λ c. look g c (p.first ∷ [])) (placed (cell_path p list) 0 (nodes_of (take k ns)))) ≡ Ok (placed (element_path p list) 0 (nodes_of old))
    → all_there (map (λ c. look g c (p.first ∷ [])) (placed (cell_path p list) 0 (nodes_of (take (k + 1) ns)))) ≡ Ok (placed (element_path p list) 0 (nodes_of new))
first_more g p list ns k d x old new lt s e count before =
    looked_more (λ c. look g c (p.first ∷ [])) (cell_path p list) ns k d (placed (element_path p list) 0 (nodes_of old)) (record { node = x.0; path = element_path p list k }) lt (look_one g (get_or ns k d).0 x.0 (cell_path p list k) p.first s) before
    ∙ ap Ok (sym (ap (placed (element_path p list) 0) (nodes_push new old x e) ∙ placed_more (element_path p list) (nodes_of old) x.0 k (length-map old (λ n. n.0) ∙ count)))

pub first_stops : (g : GraphMap) (p : Paths) (list : Feature) (ns : List Node) (k : ℕ) (d : Node) (old : List Node) (e : NoMrs) → k < length ns → step g (get_or ns k d).0 p.first ≡ None
    → all_there (map (λ c. look g c (p.first ∷ [])) (placed (cell_path p list) 0 (nodes_of (take k ns)))) ≡ Ok (placed (element_path p list) 0 (nodes_of old))
    → Names (cell_path p list k ++ p.first.name ∷ []) e → IsMissing (λ out. out ≡ all_there (map (λ c. look g c (p.first ∷ [])) (placed (cell_path p list) 0 (nodes_of ns)))) e
first_stops g p list ns k d old e lt s before n =
    missing_is (λ out. out ≡ all_there (map (λ c. look g c (p.first ∷ [])) (placed (cell_path p list) 0 (nodes_of ns)))) (cell_path p list k ++ p.first.name ∷ []) e n
    (sym (looked_stops (λ c. look g c (p.first ∷ [])) (cell_path p list) ns k d (placed (element_path p list) 0 (nodes_of old)) (element_path p list k) lt (look_none g (get_or ns k d).0 (cell_path p list k) p.first s) before))

-- the parts of one element
pair_there : (g : GraphMap) (one two : Feature) (n a b : ℕ) (path : NamedPath) → step g n one ≡ Some a → step g n two ≡ Some b → look_pair g one two (record { node = n; path = path }) ≡ Ok (record { at = n; one = a; two = b })
pair_there g one two n a b path s t =
    ap (λ r. chain r (λ x. chain (look g (record { node = n; path = path }) (two ∷ [])) (λ y. Ok (record { at = n; one = x.node; two = y.node })))) (look_one g n a path one s)
    ∙ ap (λ r. chain r (λ y. Ok (record { at = n; one = a; two = y.node }))) (look_one g n b path two t)

pair_no_one : (g : GraphMap) (one two : Feature) (n : ℕ) (path : NamedPath) → step g n one ≡ None → look_pair g one two (record { node = n; path = path }) ≡ Err (path ++ one.name ∷ [])
pair_no_one g one two n path s =
    ap (λ r. chain r (λ x. chain (look g (record { node = n; path = path }) (two ∷ [])) (λ y. Ok (record { at = n; one = x.node; two = y.node })))) (look_none g n path one s)

pair_no_two : (g : GraphMap) (one two : Feature) (n a : ℕ) (path : NamedPath) → step g n one ≡ Some a → step g n two ≡ None → look_pair g one two (record { node = n; path = path }) ≡ Err (path ++ two.name ∷ [])
pair_no_two g one two n a path s t =
    ap (λ r. chain r (λ x. chain (look g (record { node = n; path = path }) (two ∷ [])) (λ y. Ok (record { at = n; one = x.node; two = y.node })))) (look_one g n a path one s)
    ∙ ap (λ r. chain r (λ y. Ok (record { at = n; one = a; two = y.node }))) (look_none g n path two t)

pub pair_more : (g : GraphMap) (p : Paths) (list one two : Feature) (ns : List Node) (k : ℕ) (d a b : Node) (old new : List Element) → k < length ns → step g (get_or ns k d).0 one ≡ Some a.0 → step g (get_or ns k d).0 two ≡ Some b.0
    → new ≡ old ++ record { at = get_or ns k d; one = a; two = b } ∷ []
    → all_there (map (look_pair g one two) (placed (element_path p list) 0 (nodes_of (take k ns)))) ≡ Ok (pairs_of old)
    → all_there (map (look_pair g one two) (placed (element_path p list) 0 (nodes_of (take (k + 1) ns)))) ≡ Ok (pairs_of new)
pair_more g p list one two ns k d a b old new lt s t e before =
    looked_more (look_pair g one two) (element_path p list) ns k d (pairs_of old) (record { at = (get_or ns k d).0; one = a.0; two = b.0 }) lt (pair_there g one two (get_or ns k d).0 a.0 b.0 (element_path p list k) s t) before
    ∙ ap Ok (sym (ap pairs_of e ∙ map-append pair_of old (record { at = get_or ns k d; one = a; two = b } ∷ [])))

pair_fault : (g : GraphMap) (p : Paths) (list one two : Feature) (ns : List Node) (k : ℕ) (d : Node) (old : List Element) (e : NoMrs) (name : List ℕ) → k < length ns
    → look_pair g one two (record { node = (get_or ns k d).0; path = element_path p list k }) ≡ Err (element_path p list k ++ name ∷ [])
    → all_there (map (look_pair g one two) (placed (element_path p list) 0 (nodes_of (take k ns)))) ≡ Ok (pairs_of old)
    → Names (cell_path p list k ++ p.first.name ∷ name ∷ []) e → IsMissing (λ out. out ≡ all_there (map (look_pair g one two) (placed (element_path p list) 0 (nodes_of ns)))) e
pair_fault g p list one two ns k d old e name lt s before n =
    missing_is (λ out. out ≡ all_there (map (look_pair g one two) (placed (element_path p list) 0 (nodes_of ns)))) (cell_path p list k ++ p.first.name ∷ name ∷ []) e n
    (sym (looked_stops (look_pair g one two) (element_path p list) ns k d (pairs_of old) (element_path p list k ++ name ∷ []) lt s before
    ∙ ap Err (append_assoc (cell_path p list k) (p.first.name ∷ []) (name ∷ []))))

pub one_stops : (g : GraphMap) (p : Paths) (list one two : Feature) (ns : List Node) (k : ℕ) (d : Node) (old : List Element) (e : NoMrs) → k < length ns → step g (get_or ns k d).0 one ≡ None
    → all_there (map (look_pair g one two) (placed (element_path p list) 0 (nodes_of (take k ns)))) ≡ Ok (pairs_of old)
    → Names (cell_path p list k ++ p.first.name ∷ one.name ∷ []) e → IsMissing (λ out. out ≡ all_there (map (look_pair g one two) (placed (element_path p list) 0 (nodes_of ns)))) e
one_stops g p list one two ns k d old e lt s before n = pair_fault g p list one two ns k d old e one.name lt (pair_no_one g one two (get_or ns k d).0 (element_path p list k) s) before n

pub two_stops : (g : GraphMap) (p : Paths) (list one two : Feature) (ns : List Node) (k : ℕ) (d a : Node) (old : List Element) (e : NoMrs) → k < length ns → step g (get_or ns k d).0 one ≡ Some a.0 → step g (get_or ns k d).0 two ≡ None
    → all_there (map (look_pair g one two) (placed (element_path p list) 0 (nodes_of (take k ns)))) ≡ Ok (pairs_of old)
    → Names (cell_path p list k ++ p.first.name ∷ two.name ∷ []) e → IsMissing (λ out. out ≡ all_there (map (look_pair g one two) (placed (element_path p list) 0 (nodes_of ns)))) e
two_stops g p list one two ns k d a old e lt s t before n = pair_fault g p list one two ns k d old e two.name lt (pair_no_two g one two (get_or ns k d).0 a.0 (element_path p list k) s t) before n

-- the whole list
pub list_missing : (g : GraphMap) (types : TypeTable) (p : Paths) (m : ℕ) (list one two : Feature) (e : NoMrs) → step g m list ≡ None → Names (names p.mrs_path ++ list.name ∷ []) e → IsMissing (Elements g types p (mrs_place p m) list one two) e
list_missing g types p m list one two e s n = missing_is (Elements g types p (mrs_place p m) list one two) (names p.mrs_path ++ list.name ∷ []) e n (no_list (names p.mrs_path ++ list.name ∷ []) (look_none g m (names p.mrs_path) list s))

pub start_missing : (g : GraphMap) (types : TypeTable) (p : Paths) (m at : ℕ) (list one two : Feature) (e : NoMrs) → step g m list ≡ Some at → step g at p.diff_list ≡ None → Names (names p.mrs_path ++ list.name ∷ p.diff_list.name ∷ []) e → IsMissing (Elements g types p (mrs_place p m) list one two) e
start_missing g types p m at list one two e s t n =
    missing_is (Elements g types p (mrs_place p m) list one two) (names p.mrs_path ++ list.name ∷ p.diff_list.name ∷ []) e n
    (no_start (record { node = at; path = names p.mrs_path ++ list.name ∷ [] }) (names p.mrs_path ++ list.name ∷ p.diff_list.name ∷ []) (look_one g m at (names p.mrs_path) list s)
    (look_none g at (names p.mrs_path ++ list.name ∷ []) p.diff_list t ∙ ap Err (append_assoc (names p.mrs_path) (list.name ∷ []) (p.diff_list.name ∷ []))))

pub list_walked : (g : GraphMap) (types : TypeTable) (p : Paths) (m at start : ℕ) (list one two : Feature) (cells : Sought (List Place)) → step g m list ≡ Some at → step g at p.diff_list ≡ Some start
    → Walks g types p (step g at p.diff_last) (record { node = start; path = start_path p list }) cells → Elements g types p (mrs_place p m) list one two (chain cells (pairs_in g p one two))
list_walked g types p m at start list one two cells s t w =
    walked (record { node = at; path = names p.mrs_path ++ list.name ∷ [] }) (record { node = start; path = start_path p list }) cells (look_one g m at (names p.mrs_path) list s) (look_one g at start (names p.mrs_path ++ list.name ∷ []) p.diff_list t) w

pub walk_stops : (g : GraphMap) (types : TypeTable) (p : Paths) (m at start : ℕ) (list one two : Feature) (cells : ℕ) (e : NoMrs) → step g m list ≡ Some at → step g at p.diff_list ≡ Some start
    → Walks g types p (step g at p.diff_last) (record { node = start; path = start_path p list }) (Err (cell_path p list cells)) → Names (cell_path p list cells ++ []) e → IsMissing (Elements g types p (mrs_place p m) list one two) e
walk_stops g types p m at start list one two cells e s t w n =
    missing_is (Elements g types p (mrs_place p m) list one two) (cell_path p list cells ++ []) e n
    (subst (λ q. Elements g types p (mrs_place p m) list one two (Err q)) (sym (append-nil (cell_path p list cells))) (list_walked g types p m at start list one two (Err (cell_path p list cells)) s t w))

-- what is missing of a list's elements, or of their parts
stops_by : (g : GraphMap) (types : TypeTable) (p : Paths) (m : ℕ) (list one two : Feature) (cells : List Place) (e : NoMrs) → Elements g types p (mrs_place p m) list one two (pairs_in g p one two cells)
    → IsMissing (λ out. out ≡ all_there (map (λ c. look g c (p.first ∷ [])) cells)) e → IsMissing (Elements g types p (mrs_place p m) list one two) e
stops_by g types p m list one two cells (Absent named) all n =
    subst (Elements g types p (mrs_place p m) list one two) (ap (λ r. chain r (λ es. all_there (map (look_pair g one two) es))) (sym n)) all
stops_by g types p m list one two cells NoMemory all n = tt

pub firsts_missing : (g : GraphMap) (types : TypeTable) (p : Paths) (m at start : ℕ) (list one two : Feature) (cells : List Place) (e : NoMrs) → step g m list ≡ Some at → step g at p.diff_list ≡ Some start
    → Walks g types p (step g at p.diff_last) (record { node = start; path = start_path p list }) (Ok cells) → IsMissing (λ out. out ≡ all_there (map (λ c. look g c (p.first ∷ [])) cells)) e → IsMissing (Elements g types p (mrs_place p m) list one two) e
firsts_missing g types p m at start list one two cells e s t w n = stops_by g types p m list one two cells e (list_walked g types p m at start list one two (Ok cells) s t w) n

pub parts_told : (g : GraphMap) (types : TypeTable) (p : Paths) (m at start : ℕ) (list one two : Feature) (cells elements : List Place) {B : Type 0} (view : B → List Pair) (r : Result B NoMrs) → step g m list ≡ Some at → step g at p.diff_list ≡ Some start
    → Walks g types p (step g at p.diff_last) (record { node = start; path = start_path p list }) (Ok cells) → Ok elements ≡ all_there (map (λ c. look g c (p.first ∷ [])) cells)
    → Tells view (λ out. out ≡ all_there (map (look_pair g one two) elements)) r → Tells view (Elements g types p (mrs_place p m) list one two) r
parts_told g types p m at start list one two cells elements {B = B} view r s t w firsts told = by_answer r told
  where
    all : Elements g types p (mrs_place p m) list one two (all_there (map (look_pair g one two) elements))
    all = subst (Elements g types p (mrs_place p m) list one two) (ap (λ r. chain r (λ es. all_there (map (look_pair g one two) es))) (sym firsts)) (list_walked g types p m at start list one two (Ok cells) s t w)

    by_answer : (r : Result B NoMrs) → Tells view (λ out. out ≡ all_there (map (look_pair g one two) elements)) r → Tells view (Elements g types p (mrs_place p m) list one two) r
    by_answer (Ok b) h = subst (Elements g types p (mrs_place p m) list one two) (sym h) all
    by_answer (Err (Absent named)) h = subst (Elements g types p (mrs_place p m) list one two) (sym h) all
    by_answer (Err NoMemory) h = tt

-- individual constraints
some_elements : (g : GraphMap) (types : TypeTable) (p : Paths) (m at : ℕ) (list one two : Feature) {B : Type 0} (view : B → List Pair) (r : Result B NoMrs) → step g m list ≡ Some at
    → Tells view (Elements g types p (mrs_place p m) list one two) r → Tells view (MayElements g types p (mrs_place p m) list one two) r
some_elements g types p m at list one two view (Ok b) s h = has_some at (Ok (view b)) s h
some_elements g types p m at list one two view (Err (Absent named)) s h = has_some at _ s h
some_elements g types p m at list one two view (Err NoMemory) s h = tt

pub may_told : (g : GraphMap) (types : TypeTable) (p : Paths) (m : ℕ) (list one two : Feature) {B : Type 0} (view : B → List Pair) (r : Result B NoMrs) (o : Option Node) → option_map (λ n. n.0) o ≡ step g m list → is_some o ≡ true
    → Tells view (Elements g types p (mrs_place p m) list one two) r → Tells view (MayElements g types p (mrs_place p m) list one two) r
may_told g types p m list one two view r None s there h = absurd (cc)
may_told g types p m list one two view r (Some n) s there h = some_elements g types p m n.0 list one two view r (sym s) h

pub may_none : (g : GraphMap) (types : TypeTable) (p : Paths) (m : ℕ) (list one two : Feature) (o : Option Node) → option_map (λ n. n.0) o ≡ step g m list → is_some o ≡ false → MayElements g types p (mrs_place p m) list one two (Ok [])
may_none g types p m list one two None s there = has_none (sym s)
may_none g types p m list one two (Some n) s there = absurd (cc)

-- an answer that is handed on
pub handed_on : {A B : Type 0} (view : A → B) (said : Sought B → Type 0) (r : Result A NoMrs) (e : NoMrs) → IsErrAnd r (λ y. y ≡ e) → IsMissing said e → Tells view said r
handed_on view said (Ok a) e is h = absurd is
handed_on view said (Err y) e is h = subst (IsMissing said) (sym is) h

pub then_told : {A B C : Type 0} (view : C → B) (first : Sought A → Type 0) (second : A → Sought B → Type 0) (a : A) (r : Result C NoMrs) → first (Ok a) → Tells view (second a) r → Tells view (Then first second) r
then_told view first second a (Ok b) f h = leads a _ f h
then_told view first second a (Err (Absent named)) f h = leads a _ f h
then_told view first second a (Err NoMemory) f h = tt

-- the place at a path, and a path that leads nowhere
pub at_found : (g : GraphMap) (at : Place) (fs : List Feature) (n : ℕ) → Some n ≡ follow g fs (Some at.node) → IsAt g at fs (Ok (record { node = n; path = at.path ++ names fs }))
at_found g at fs n e = ap (found (at.path ++ names fs)) e

pub at_missing : (g : GraphMap) (at : Place) (fs : List Feature) (e : NoMrs) → None ≡ follow g fs (Some at.node) → Names (at.path ++ names fs) e → IsMissing (IsAt g at fs) e
at_missing g at fs e f n = missing_is (IsAt g at fs) (at.path ++ names fs) e n (ap (found (at.path ++ names fs)) f)

pub pairs_push : (new old : List Element) (x : Element) → new ≡ old ++ x ∷ [] → pairs_of new ≡ pairs_of old ++ pair_of x ∷ []
pairs_push new old x e = ap pairs_of e ∙ map-append pair_of old (x ∷ [])

-- the same of a list's code
abbrev pub IsWalkEnd : GraphMap → TypeTable → Paths → Option Node → ℕ → List Node → Bool → Type 0
IsWalkEnd g types p last start cells whole = (path : NamedPath) → Walks g types p (option_map (λ n. n.0) last) (record { node = start; path = path }) (walk_end p.rest.name path (nodes_of cells) whole)

walk_here : (g : GraphMap) (types : TypeTable) (p : Paths) (at start : ℕ) (list : Feature) (last : Option Node) → option_map (λ n. n.0) last ≡ step g at p.diff_last → (cells : List Node) (whole end : Bool) → IsWalkEnd g types p last start cells whole → whole ≡ end
    → Walks g types p (step g at p.diff_last) (record { node = start; path = start_path p list }) (walk_end p.rest.name (start_path p list) (nodes_of cells) end)
walk_here g types p at start list last l cells whole end w e =
    subst (λ o. Walks g types p o (record { node = start; path = start_path p list }) (walk_end p.rest.name (start_path p list) (nodes_of cells) end)) l
    (subst (λ b. Walks g types p (option_map (λ n. n.0) last) (record { node = start; path = start_path p list }) (walk_end p.rest.name (start_path p list) (nodes_of cells) b)) e (w (start_path p list)))

pub walk_stopped : (g : GraphMap) (types : TypeTable) (p : Paths) (m at start : ℕ) (list one two : Feature) (last : Option Node) → option_map (λ n. n.0) last ≡ step g at p.diff_last → (cells : List Node) (whole : Bool) (n : ℕ) (e : NoMrs) → step g m list ≡ Some at → step g at p.diff_list ≡ Some start
    → IsWalkEnd g types p last start cells whole → whole ≡ false → n ≡ length cells → Names (cell_path p list n ++ []) e → IsMissing (Elements g types p (mrs_place p m) list one two) e
walk_stopped g types p m at start list one two last l cells whole n e s t w is count named =
    walk_stops g types p m at start list one two n e s t
    (subst (λ k. Walks g types p (step g at p.diff_last) (record { node = start; path = start_path p list }) (Err (start_path p list ++ replicate k p.rest.name))) (length-map cells (λ k. k.0) ∙ sym count)
    (walk_here g types p at start list last l cells whole false w is)) named

pub firsts_missing_after : (g : GraphMap) (types : TypeTable) (p : Paths) (m at start : ℕ) (list one two : Feature) (last : Option Node) → option_map (λ n. n.0) last ≡ step g at p.diff_last → (cells seen_cells : List Node) → seen_cells ≡ cells → (whole : Bool) (e : NoMrs) → step g m list ≡ Some at → step g at p.diff_list ≡ Some start
    → IsWalkEnd g types p last start cells whole → whole ≡ true → IsMissing (λ out. out ≡ all_there (map (λ c. look g c (p.first ∷ [])) (placed (cell_path p list) 0 (nodes_of seen_cells)))) e → IsMissing (Elements g types p (mrs_place p m) list one two) e
firsts_missing_after g types p m at start list one two last l cells seen_cells same whole e s t w is missing =
    firsts_missing g types p m at start list one two (placed (cell_path p list) 0 (nodes_of cells)) e s t (walk_here g types p at start list last l cells whole true w is)
    (subst (λ ns. IsMissing (λ out. out ≡ all_there (map (λ c. look g c (p.first ∷ [])) (placed (cell_path p list) 0 (nodes_of ns)))) e) same missing)

pub parts_told_after : (g : GraphMap) (types : TypeTable) (p : Paths) (m at start : ℕ) (list one two : Feature) (last : Option Node) → option_map (λ n. n.0) last ≡ step g at p.diff_last → (cells seen_cells : List Node) → seen_cells ≡ cells → (whole : Bool) (elements seen_elements : List Node) → seen_elements ≡ elements
    → {B : Type 0} (view : B → List Pair) (r : Result B NoMrs) → step g m list ≡ Some at → step g at p.diff_list ≡ Some start
    → IsWalkEnd g types p last start cells whole → whole ≡ true
    → Ok (placed (element_path p list) 0 (nodes_of elements)) ≡ all_there (map (λ c. look g c (p.first ∷ [])) (placed (cell_path p list) 0 (nodes_of seen_cells)))
    → Tells view (λ out. out ≡ all_there (map (look_pair g one two) (placed (element_path p list) 0 (nodes_of seen_elements)))) r → Tells view (Elements g types p (mrs_place p m) list one two) r
parts_told_after g types p m at start list one two last l cells seen_cells same whole elements seen_elements same_elements view r s t w is firsts told =
    parts_told g types p m at start list one two (placed (cell_path p list) 0 (nodes_of cells)) (placed (element_path p list) 0 (nodes_of elements)) view r s t (walk_here g types p at start list last l cells whole true w is)
    (subst (λ ns. Ok (placed (element_path p list) 0 (nodes_of elements)) ≡ all_there (map (λ c. look g c (p.first ∷ [])) (placed (cell_path p list) 0 (nodes_of ns)))) same firsts)
    (subst (λ ns. Tells view (λ out. out ≡ all_there (map (look_pair g one two) (placed (element_path p list) 0 (nodes_of ns)))) r) same_elements told)

-- the lists of M, one after the other
abbrev pub RelsIn : GraphMap → TypeTable → Paths → Place → Sought (List Pair) → Type 0
RelsIn g types p m = Elements g types p m p.rels p.pred p.lbl

abbrev pub HconsIn : GraphMap → TypeTable → Paths → Place → Sought (List Pair) → Type 0
HconsIn g types p m = Elements g types p m p.hcons p.harg p.larg

abbrev pub IconsIn : GraphMap → TypeTable → Paths → Place → Sought (List Pair) → Type 0
IconsIn g types p m = MayElements g types p m p.icons p.iarg1 p.iarg2

pub rels_missing : (g : GraphMap) (types : TypeTable) (p : Paths) (m t i : Place) (e : NoMrs) → IsMissing (RelsIn g types p m) e → IsMissing (LooksAtLists g types p m t i) e
rels_missing g types p m t i (Absent named) h = stops _ h
rels_missing g types p m t i NoMemory h = tt

pub hcons_missing : (g : GraphMap) (types : TypeTable) (p : Paths) (m t i : Place) (rels : List Pair) (e : NoMrs) → RelsIn g types p m (Ok rels) → IsMissing (HconsIn g types p m) e → IsMissing (LooksAtLists g types p m t i) e
hcons_missing g types p m t i rels (Absent named) r h = leads rels _ r (stops _ h)
hcons_missing g types p m t i rels NoMemory r h = tt

pub icons_missing : (g : GraphMap) (types : TypeTable) (p : Paths) (m t i : Place) (rels hcons : List Pair) (e : NoMrs) → RelsIn g types p m (Ok rels) → HconsIn g types p m (Ok hcons) → IsMissing (IconsIn g types p m) e → IsMissing (LooksAtLists g types p m t i) e
icons_missing g types p m t i rels hcons (Absent named) r k h = leads rels _ r (leads hcons _ k (stops _ h))
icons_missing g types p m t i rels hcons NoMemory r k h = tt

pub lists_found : (g : GraphMap) (types : TypeTable) (p : Paths) (m t i : Place) (top index : ℕ) (rels hcons icons : List Pair) → t.node ≡ top → i.node ≡ index → RelsIn g types p m (Ok rels) → HconsIn g types p m (Ok hcons) → IconsIn g types p m (Ok icons)
    → LooksAtLists g types p m t i (Ok (record { top = top; index = index; rels = rels; hcons = hcons; icons = icons }))
lists_found g types p m t i top index rels hcons icons et ei r h k =
    leads rels _ r (leads hcons _ h (leads icons _ k
    (ap (λ n. Ok (record { top = n; index = index; rels = rels; hcons = hcons; icons = icons })) (sym et) ∙ ap (λ n. Ok (record { top = t.node; index = n; rels = rels; hcons = hcons; icons = icons })) (sym ei))))

-- a part of M, as the code has it
abbrev pub part_place : Paths → List MrsFeat → ℕ → Place
part_place p path n = record { node = n; path = names p.mrs_path ++ names (map feature_of path) }

part_by : (g : GraphMap) (p : Paths) (m n : ℕ) (path seen : List MrsFeat) → seen ≡ path → IsAt g (mrs_place p m) (map feature_of seen) (Ok (part_place p seen n)) → IsAt g (mrs_place p m) (map feature_of path) (Ok (part_place p path n))
part_by g p m n path seen e h = subst (λ l. IsAt g (mrs_place p m) (map feature_of l) (Ok (part_place p l n))) e h

part_fault : (g : GraphMap) (p : Paths) (m : ℕ) (path seen : List MrsFeat) (e : NoMrs) → seen ≡ path → IsMissing (IsAt g (mrs_place p m) (map feature_of seen)) e → IsMissing (IsAt g (mrs_place p m) (map feature_of path)) e
part_fault g p m path seen e q h = subst (λ l. IsMissing (IsAt g (mrs_place p m) (map feature_of l)) e) q h

pub top_missing : (g : GraphMap) (types : TypeTable) (p : MrsPaths) (m : ℕ) (seen : List MrsFeat) → seen ≡ p.ltop_path.items → (e : NoMrs) → IsAt g root (paths_of p).mrs_path (Ok (mrs_place (paths_of p) m))
    → IsMissing (IsAt g (mrs_place (paths_of p) m) (map feature_of seen)) e → IsMissing (Looks g types (paths_of p)) e
top_missing g types p m seen q (Absent named) at h = leads _ _ at (stops _ (part_fault g (paths_of p) m p.ltop_path.items seen (Absent named) q h))
top_missing g types p m seen q NoMemory at h = tt

pub index_missing : (g : GraphMap) (types : TypeTable) (p : MrsPaths) (m top : ℕ) (seen_top seen : List MrsFeat) → seen_top ≡ p.ltop_path.items → seen ≡ p.index_path.items → (e : NoMrs) → IsAt g root (paths_of p).mrs_path (Ok (mrs_place (paths_of p) m))
    → IsAt g (mrs_place (paths_of p) m) (map feature_of seen_top) (Ok (part_place (paths_of p) seen_top top)) → IsMissing (IsAt g (mrs_place (paths_of p) m) (map feature_of seen)) e → IsMissing (Looks g types (paths_of p)) e
index_missing g types p m top seen_top seen qt q (Absent named) at t h = leads _ _ at (leads _ _ (part_by g (paths_of p) m top p.ltop_path.items seen_top qt t) (stops _ (part_fault g (paths_of p) m p.index_path.items seen (Absent named) q h)))
index_missing g types p m top seen_top seen qt q NoMemory at t h = tt

pub lists_told : (g : GraphMap) (types : TypeTable) (p : MrsPaths) (m top index : ℕ) (seen_top seen : List MrsFeat) → seen_top ≡ p.ltop_path.items → seen ≡ p.index_path.items → {C : Type 0} (view : C → Parts) (r : Result C NoMrs) → IsAt g root (paths_of p).mrs_path (Ok (mrs_place (paths_of p) m))
    → IsAt g (mrs_place (paths_of p) m) (map feature_of seen_top) (Ok (part_place (paths_of p) seen_top top)) → IsAt g (mrs_place (paths_of p) m) (map feature_of seen) (Ok (part_place (paths_of p) seen index))
    → ((t i : Place) → t.node ≡ top → i.node ≡ index → Tells view (LooksAtLists g types (paths_of p) (mrs_place (paths_of p) m) t i) r) → Tells view (Looks g types (paths_of p)) r
lists_told g types p m top index seen_top seen qt q view r at t i h =
    let here = part_place (paths_of p) p.ltop_path.items top in
    let there = part_place (paths_of p) p.index_path.items index in
    then_told view _ _ (mrs_place (paths_of p) m) r at
    (then_told view _ _ here r (part_by g (paths_of p) m top p.ltop_path.items seen_top qt t)
    (then_told view _ _ there r (part_by g (paths_of p) m index p.index_path.items seen q i) (h here there refl refl)))

pub mrs_missing : (g : GraphMap) (types : TypeTable) (p : Paths) (e : NoMrs) → IsMissing (IsAt g root p.mrs_path) e → IsMissing (Looks g types p) e
mrs_missing g types p (Absent named) h = stops _ h
mrs_missing g types p NoMemory h = tt
