-- The elements of a list and the elementary predications of its MRS.
use Rattle.std.specs.Prelude.{ℕ, ◌≡◌, ◌<◌, true, Option, Some, None, Ok, Err, List, [], ◌∷◌, ◌++◌, length, map, slice_get}
use Rattle.std.proofs.Common.{refl, sym, ◌∙◌, ap, subst, arith, suc, append_assoc}
use Rattle.std.specs.List.{AllZip}
use Rattle.std.proofs.lemmas.List.{length-map}
use Rattle.std.proofs.lemmas.List.Sorted.{length_permutation}
use Rattle.type_hierarchy.specs.Table.{TypeTable}
use Rattle.fs_model.specs.Claims.{Path, System, IsOrder}
use Rattle.fs_model.specs.Closure.{Closure, introduced}
use Rattle.fs_model.proofs.TableLemmas.{walk-append, walk-prefix, walk_ends}
use Rattle.fs_graph.specs.GraphMap.{GraphMap, IsGraph, node_at, table_of, arc_to, arcs_at, type_at, reader_of}
use Rattle.tree_model.specs.Structures.{Structure, Says}
use Rattle.tree_model.specs.Views.{Shows}
use Rattle.tree_model.specs.Mothers.{Meant}
use Rattle.chart_model.specs.declared.counts.Counts.{Counts}
use Rattle.tree_model.specs.Signs.{Signs, rule_system}
use Rattle.mrs_model.specs.Renaming.{renamed_ep, unspanned}
use Rattle.mrs_places.specs.Paths.{Feature, Paths}
use Rattle.mrs_places.specs.Looking as looking
use Rattle.mrs_places.specs.Looking.{Sought, Place, Pair, Parts, Walks, Elements, no_list, no_start, walked, Then, stops, leads, chain, and_more, all_there, step, look, look_pair, found, follow, pairs_in, root, Looks}
use Rattle.generate_model.specs.Threads.{times, Reaches}
use Rattle.generate_model.specs.Threading.{Hopeless}
use Rattle.generate_model.specs.Contributions.{Input, Means}
use Rattle.relation_fit.specs.Lists.{RelList, numbers, longer, list_at, list_in}
use Rattle.relation_fit.specs.Fits.{NullApart, SameBelow}
use Rattle.relation_fit.specs.Inner.Cells.{AreCells}
use Rattle.relation_fit.proofs.Nodes.{some_one, node_next}
use Rattle.relation_fit.proofs.Chains.{Chain, chain_of, chain_one, walk_long, walk_at, follow_walk, err_ok, ok_one}

all_long : {A : Type 0} (rs : List (Sought A)) (xs : List A) → all_there rs ≡ Ok xs → length xs ≡ length rs
all_long [] xs e = sym (ap length (ok_one (Ok []) [] xs refl e))
all_long (Err path ∷ rs) xs e = err_ok path xs e
all_long {A} (Ok a ∷ rs) xs e = by_rest (all_there rs) refl e (λ ys f. all_long rs ys f)
  where
    by_rest : (o : Sought (List A)) → all_there rs ≡ o → and_more a o ≡ Ok xs → ((ys : List A) → all_there rs ≡ Ok ys → length ys ≡ length rs) → length xs ≡ suc (length rs)
    by_rest (Err path) y z f = err_ok path xs z
    by_rest (Ok ys) y z f = sym (ap length (ok_one (Ok (a ∷ ys)) (a ∷ ys) xs refl z)) ∙ ap suc (f ys y)

pairs_long : (g : GraphMap) (p : Paths) (one two : Feature) (cells : List Place) (rels : List Pair) → pairs_in g p one two cells ≡ Ok rels → length rels ≡ length cells
pairs_long g p one two cells rels e = by_first (all_there (map (λ c. look g c (p.first ∷ [])) cells)) refl e
  where
    by_first : (o : Sought (List Place)) → all_there (map (λ c. look g c (p.first ∷ [])) cells) ≡ o → chain o (λ elements. all_there (map (look_pair g one two) elements)) ≡ Ok rels → length rels ≡ length cells
    by_first (Err path) y z = err_ok path rels z
    by_first (Ok es) y z =
        all_long (map (look_pair g one two) es) rels z ∙ length-map es (look_pair g one two)
        ∙ all_long (map (λ c. look g c (p.first ∷ [])) cells) es y ∙ length-map cells (λ c. look g c (p.first ∷ []))

then_ok : {A B : Type 0} {first : Sought A → Type 0} {second : A → Sought B → Type 0} {out : Sought B} → Then first second out → (b : B) → out ≡ Ok b → (a : A) × first (Ok a) × second a (Ok b)
then_ok (stops path h) b e = err_ok path b e
then_ok {second = second} (leads a out h k) b e = (a, h, subst (second a) e k)

pub look_ok : (g : GraphMap) (at to : Place) (fs : List Feature) → look g at fs ≡ Ok to → follow g fs (Some at.node) ≡ Some to.node
look_ok g at to fs e = by_found (follow g fs (Some at.node)) refl e
  where
    by_found : (o : Option ℕ) → follow g fs (Some at.node) ≡ o → found (at.path ++ looking.names fs) o ≡ Ok to → follow g fs (Some at.node) ≡ Some to.node
    by_found None y z = err_ok _ to z
    by_found (Some n) y z = y ∙ ap (λ (x : Place). Some x.node) (ok_one (Ok (record { node = n; path = at.path ++ looking.names fs })) (record { node = n; path = at.path ++ looking.names fs }) to refl z)

-- how a walk begins and ends
pub record Begun (g : GraphMap) (types : TypeTable) (p : Paths) (rels : List Pair) : Type 0 where
  m : ℕ
  at : ℕ
  pub start : Place
  pub cells : List Place
  m_is : follow g p.mrs_path (Some 0) ≡ Some m
  at_is : step g m p.rels ≡ Some at
  start_is : step g at p.diff_list ≡ Some start.node
  walks : Walks g types p (step g at p.diff_last) start (Ok cells)
  pub pairs : pairs_in g p p.pred p.lbl cells ≡ Ok rels

pub one_step : (g : GraphMap) (n k : ℕ) (f : Feature) → follow g (f ∷ []) (Some n) ≡ Some k → step g n f ≡ Some k
one_step g n k f e = by_arc (step g n f) e
  where
    by_arc : (o : Option ℕ) → follow g [] o ≡ Some k → o ≡ Some k
    by_arc None z = z
    by_arc (Some j) z = z

elements_begun : (g : GraphMap) (types : TypeTable) (p : Paths) (m : Place) (out : Sought (List Pair)) → follow g p.mrs_path (Some 0) ≡ Some m.node → Elements g types p m p.rels p.pred p.lbl out → (rels : List Pair) → out ≡ Ok rels → Begun g types p rels
elements_begun g types p m out h (no_list path e) rels o = err_ok path rels o
elements_begun g types p m out h (no_start at path e f) rels o = err_ok path rels o
elements_begun g types p m out h (walked at start (Err path) e f w) rels o = err_ok path rels o
elements_begun g types p m out h (walked at start (Ok cells) e f w) rels o = record {
  m = m.node;
  at = at.node;
  start = start;
  cells = cells;
  m_is = h;
  at_is = one_step g m.node at.node p.rels (look_ok g m at (p.rels ∷ []) e);
  start_is = one_step g at.node start.node p.diff_list (look_ok g at start (p.diff_list ∷ []) f);
  walks = w;
  pairs = o;
}

pub looks_begun : (g : GraphMap) (types : TypeTable) (p : Paths) (parts : Parts) → Looks g types p (Ok parts) → Begun g types p parts.rels
looks_begun g types p parts l =
    let m = then_ok l parts refl in
    let top = then_ok m.2 parts refl in
    let index = then_ok top.2 parts refl in
    let rels = then_ok index.2 parts refl in
    let hcons = then_ok rels.2 parts refl in
    let icons = then_ok hcons.2 parts refl in
    let e = ok_one (Ok parts) parts (record { top = top.0.node; index = index.0.node; rels = rels.0; hcons = hcons.0; icons = icons.0 }) refl icons.2 in
    subst (Begun g types p) (sym (ap (λ (x : Parts). x.rels) e)) (elements_begun g types p m.0 (Ok rels.0) (look_ok g root m.0 p.mrs_path (sym m.1)) rels.1 rels.0 refl)

zip_long : {A B : Type 0} (R : A → B → Type 0) (xs : List A) (ys : List B) → AllZip R xs ys → length xs ≡ length ys
zip_long R [] [] z = refl
zip_long R [] (y ∷ ys) z = absurd z
zip_long R (x ∷ xs) [] z = absurd z
zip_long R (x ∷ xs) (y ∷ ys) z = ap suc (zip_long R xs ys z.1)

-- the numbers of the features of the list
pub record Known (p : Paths) (l : RelList) : Type 0 where
  mrs : Path
  rels : ℕ
  list : ℕ
  last : ℕ
  mrs_is : numbers p.mrs_path ≡ Some mrs
  rels_is : p.rels.number ≡ Some rels
  list_is : p.diff_list.number ≡ Some list
  last_is : p.diff_last.number ≡ Some last
  rest_is : p.rest.number ≡ Some l.rest
  start : l.ends.start ≡ longer mrs rels list
  end : l.ends.end ≡ longer mrs rels last

pub known : (p : Paths) (l : RelList) → list_in p ≡ Some l → Known p l
known p l h = by_each (numbers p.mrs_path) refl p.rels.number refl p.diff_list.number refl p.diff_last.number refl p.rest.number refl h
  where
    by_each : (a : Option (List ℕ)) → numbers p.mrs_path ≡ a → (b : Option ℕ) → p.rels.number ≡ b → (c : Option ℕ) → p.diff_list.number ≡ c → (d : Option ℕ) → p.diff_last.number ≡ d → (e : Option ℕ) → p.rest.number ≡ e →
        list_at a b c d e ≡ Some l → Known p l
    by_each None x b y c z d u e v h = absurd (cc)
    by_each (Some mrs) x None y c z d u e v h = absurd (cc)
    by_each (Some mrs) x (Some rels) y None z d u e v h = absurd (cc)
    by_each (Some mrs) x (Some rels) y (Some list) z None u e v h = absurd (cc)
    by_each (Some mrs) x (Some rels) y (Some list) z (Some last) u None v h = absurd (cc)
    by_each (Some mrs) x (Some rels) y (Some list) z (Some last) u (Some rest) v h =
        let q : record { ends = record { start = longer mrs rels list; end = longer mrs rels last }; rest = rest } ≡ l = cc in
        record {
          mrs = mrs;
          rels = rels;
          list = list;
          last = last;
          mrs_is = x;
          rels_is = y;
          list_is = z;
          last_is = u;
          rest_is = v ∙ ap (λ (k : RelList). Some k.rest) q;
          start = sym (ap (λ (k : RelList). k.ends.start) q);
          end = sym (ap (λ (k : RelList). k.ends.end) q);
        }

module _ (g : GraphMap) (is : IsGraph g) where
  two_more : (p : Path) (m at n f h : ℕ) → node_at g p ≡ Some m → arc_to (arcs_at g m) f ≡ Some at → node_at g (longer p f h) ≡ arc_to (arcs_at g at) h
  two_more p m at n f h a b = ap (node_at g) (sym (append_assoc p (f ∷ []) (h ∷ []))) ∙ node_next g is (p ++ f ∷ []) at h (node_next g is p m f a ∙ b)

  -- the chain from the beginning of a list to its end
  pub list_chain : (l : RelList) (start m e : ℕ) → node_at g l.ends.start ≡ Some start → node_at g (l.ends.start ++ times l.rest m) ≡ Some e → Chain g is l.rest start m e
  list_chain l start m e a b = chain_of g is l.rest m start e (sym (walk-append (table_of g) is.numbered.table 0 start l.ends.start (times l.rest m) a) ∙ b)

  pub start_inside : (p : Path) (n : ℕ) → node_at g p ≡ Some n → n < length g.types
  start_inside p n a = (walk_ends (table_of g) is.numbered.table 0 n p is.numbered.filled a).0

module _ (s : System) (order : IsOrder s) (types : TypeTable) (same_order : SameBelow s types) (p : Paths) (l : RelList) (apart : NullApart s p l.rest) (k : Known p l) where
  null_by : (g : GraphMap) (is : IsGraph g) (m : Structure) (paths : List Path) → Shows s (Closure s (Says paths m)) (reader_of g) → (n j : ℕ) → n < length g.types → arc_to (arcs_at g n) l.rest ≡ Some j →
      (o : Option ℕ) → p.null ≡ o → looking.below types (type_at g n) o ≡ true → ⊥
  null_by g is m paths shows n j lt arc None x y = absurd (cc)
  null_by g is m paths shows n j lt arc (Some t) x y =
      let q : (r : Path) × (node_at g r ≡ Some n) = (is.least n, (is.numbered.is_least n lt).leads) in
      let there = (shows.paths (q.0 ++ l.rest ∷ [])).1 (j, node_next g is q.0 n l.rest q.1 ∙ arc) in
      let under : s.is_below (type_at g n) (s.introducer l.rest) ≡ true = shows.types_above q.0 n (s.introducer l.rest) q.1 (introduced q.0 l.rest there) in
      let null : s.is_below (type_at g n) t ≡ true = same_order (type_at g n) t ∙ y in
      let met = order.meet_exists t (s.introducer l.rest) (type_at g n) null under in
      let f : None ≡ Some met.0 = sym (apart t x) ∙ met.1 in absurd (cc)

  module _ (g : GraphMap) (is : IsGraph g) (u : Structure) (paths : List Path) (shows : Shows s (Closure s (Says paths u)) (reader_of g)) where
    -- the walk goes from the beginning of the list to its end
    pub begun_walk : (rels : List Pair) (b : Begun g types p rels) (m : ℕ) → Reaches (Closure s (Says paths u)) l.rest l.ends m →
        (e : ℕ) × (node_at g l.ends.start ≡ Some b.start.node) × Chain g is l.rest b.start.node m e × (b.start.node < length g.types) × Walks g types p (Some e) b.start (Ok b.cells)
    begun_walk rels b m r =
        let t = (shows.equalities (l.ends.start ++ times l.rest m) l.ends.end).0 r in
        let mrs : node_at g k.mrs ≡ Some b.m = sym (follow_walk g p.mrs_path k.mrs 0 k.mrs_is) ∙ b.m_is in
        let at : arc_to (arcs_at g b.m) k.rels ≡ Some b.at = ap (looking.arc_by g b.m) (sym k.rels_is) ∙ b.at_is in
        let start : node_at g l.ends.start ≡ Some b.start.node = ap (node_at g) k.start ∙ two_more g is k.mrs b.m b.at 0 k.rels k.list mrs at ∙ ap (looking.arc_by g b.at) (sym k.list_is) ∙ b.start_is in
        let last : step g b.at p.diff_last ≡ Some t.0 = ap (looking.arc_by g b.at) k.last_is ∙ sym (two_more g is k.mrs b.m b.at 0 k.rels k.last mrs at) ∙ ap (node_at g) (sym k.end) ∙ t.2 in
        (t.0, start, list_chain g is l b.start.node m t.0 start t.1, start_inside g is l.ends.start b.start.node start, subst (λ o. Walks g types p o b.start (Ok b.cells)) last b.walks)

    -- no cell is an empty list
    pub cells_apart : (n j : ℕ) → n < length g.types → arc_to (arcs_at g n) l.rest ≡ Some j → looking.below types (type_at g n) p.null ≡ true → ⊥
    cells_apart n j lt arc null = null_by g is u paths shows n j lt arc p.null refl null

    cells_long : (rels : List Pair) → Begun g types p rels → (m : ℕ) → Reaches (Closure s (Says paths u)) l.rest l.ends m → length rels ≡ m
    cells_long rels b m r =
        let w = begun_walk rels b m r in
        pairs_long g p p.pred p.lbl b.cells rels b.pairs ∙ walk_long g is l.rest types p k.rest_is w.0 cells_apart m b.start w.2 w.3 (Ok b.cells) w.4 b.cells refl

    -- the cells that are walked over are those of the list
    pub cell_at : (rels : List Pair) (b : Begun g types p rels) (m : ℕ) → Reaches (Closure s (Says paths u)) l.rest l.ends m → (i : ℕ) → i < m →
        (c : Place) × (slice_get b.cells i ≡ Some c) × (node_at g (l.ends.start ++ times l.rest i) ≡ Some c.node)
    cell_at rels b m r i lt =
        let w = begun_walk rels b m r in
        let c = walk_at g is l.rest types p k.rest_is w.0 cells_apart m b.start w.2 w.3 (Ok b.cells) w.4 b.cells refl i lt in
        (c.0, c.1, walk-append (table_of g) is.numbered.table 0 b.start.node l.ends.start (times l.rest i) w.1 ∙ c.2)

-- an accepted structure has as many elements as the input has elementary predications
pub eps_long : (g : Signs) → IsOrder g.system → (input : Input) → SameBelow g.system input.types → (l : RelList) → list_in input.paths ≡ Some l → NullApart g.system input.paths l.rest →
    (u : Structure) → Means g input u → (m : ℕ) → Reaches (Meant (rule_system g) u) l.rest l.ends m → length input.meaning.eps ≡ m
eps_long g order input same_order l e apart u a m r =
    let rels = cells_long g.system order input.types same_order input.paths l apart (known input.paths l e) a.graph a.is.graph_is u g.paths a.is.shows a.has.parts.rels (looks_begun a.graph input.types input.paths a.has.parts a.has.looks) m r in
    let zip = zip_long _ a.has.parts.rels a.mrs.eps a.has.is.eps in
    let moved = length_permutation (map (renamed_ep a.equal.0) a.mrs.eps) (map unspanned input.meaning.eps) a.equal.1.eps in
    sym (length-map input.meaning.eps unspanned) ∙ moved ∙ length-map a.mrs.eps (renamed_ep a.equal.0) ∙ sym zip ∙ rels

-- a list with more elements than the input has elementary predications
pub too_many : (g : Signs) → IsOrder g.system → (input : Input) → SameBelow g.system input.types → (l : RelList) → list_in input.paths ≡ Some l → NullApart g.system input.paths l.rest →
    (graph : GraphMap) → IsGraph graph → (v : Structure) → Shows g.system (Meant (rule_system g) v) (reader_of graph) → (cells : List ℕ) → AreCells graph l cells → length input.meaning.eps < length cells →
    Hopeless {C = Counts} (rule_system g) l.rest l.ends (λ u c. Means g input u) v
too_many g order input same_order l e apart graph is v shows cells are more n m before u c rv ru low em a =
    let t = (shows.equalities (l.ends.start ++ times l.rest n) l.ends.end).0 rv in
    let start = walk-prefix (table_of graph) 0 t.0 l.ends.start (times l.rest n) t.1 in
    let one = chain_one graph is l.rest (list_chain graph is l start.0 n t.0 start.1 t.1)
    (subst (λ x. Chain graph is l.rest start.0 (length cells) x) (some_one are.ends t.2) (list_chain graph is l start.0 (length cells) are.end start.1 are.behind)) (start_inside graph is l.ends.start start.0 start.1) in
    let long = eps_long g order input same_order l e apart u a m ru in
    omega (arith, one, long, more, low)
