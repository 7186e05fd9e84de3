-- Where the parts of a structure's MRS are looked for, and what is missing first.
use Rattle.std.specs.Prelude.{ℕ, ◌≡◌, ◌≢◌, ◌==◌, Bool, true, false, Option, Some, None, Result, Ok, Err, List, [], ◌∷◌, ◌++◌, map}
pub use Rattle.fs_graph.specs.GraphMap.{arc_named as arc_by}
use Rattle.fs_graph.specs.GraphMap.{GraphMap, type_at}
use Rattle.type_hierarchy.specs.Table.{TypeTable, is_below}
use Rattle.mrs_places.specs.Paths.{Feature, Paths}

-- a path by the names of its features
abbrev pub NamedPath : Type 0
NamedPath = List (List ℕ)

-- what was looked for, or the path that is missing
abbrev pub Sought : Type 0 → Type 0
Sought A = Result A NamedPath

-- a node, and the path at which it stands
pub record Place : Type 0 where
  pub node : ℕ
  pub path : NamedPath

-- the end of an arc, where the grammar has the feature and the node the arc
abbrev pub step : GraphMap → ℕ → Feature → Option ℕ
step g n f = arc_by g n f.number

-- this is the number
abbrev pub is_number : Option ℕ → ℕ → Bool
is_number None n = false
is_number (Some m) n = m == n

abbrev pub follow : GraphMap → List Feature → Option ℕ → Option ℕ
follow g fs None = None
follow g [] (Some n) = Some n
follow g (f ∷ fs) (Some n) = follow g fs (step g n f)

abbrev pub names : List Feature → NamedPath
names fs = map (λ f. f.name) fs

abbrev pub found : NamedPath → Option ℕ → Sought Place
found path None = Err path
found path (Some n) = Ok (record { node = n; path = path })

-- the node at a path from a place, or the path that is missing
abbrev pub look : GraphMap → Place → List Feature → Sought Place
look g at fs = found (at.path ++ names fs) (follow g fs (Some at.node))

-- at or below a type of the settings, where the grammar has it
abbrev pub below : TypeTable → ℕ → Option ℕ → Bool
below types t None = false
below types t (Some u) = is_below types t u

-- the second after the first, where that is there
abbrev pub chain : {A B : Type 0} → Sought A → (A → Sought B) → Sought B
chain (Ok a) next = next a
chain (Err path) next = Err path

abbrev pub and_more : {A : Type 0} → A → Sought (List A) → Sought (List A)
and_more a (Err path) = Err path
and_more a (Ok xs) = Ok (a ∷ xs)

-- all are there, or the first that isn't is told
abbrev pub all_there : {A : Type 0} → List (Sought A) → Sought (List A)
all_there [] = Ok []
all_there (Err path ∷ rs) = Err path
all_there (Ok a ∷ rs) = and_more a (all_there rs)

-- The walk along a list by REST: the places of its cells. It ends at the node LAST and at a node at or below the null type; any other
-- must be at or below the cons type and have a REST.
pub data Walks (g : GraphMap) (types : TypeTable) (p : Paths) (last : Option ℕ) : Place → Sought (List Place) → Type 0 where
  at_last : (at : Place) → last ≡ Some at.node → Walks g types p last at (Ok [])
  at_null : (at : Place) → below types (type_at g at.node) p.null ≡ true → Walks g types p last at (Ok [])
  is_open : (at : Place) → last ≢ Some at.node → below types (type_at g at.node) p.null ≡ false → below types (type_at g at.node) p.cons ≡ false
      → Walks g types p last at (Err at.path)
  no_rest : (at : Place) → last ≢ Some at.node → below types (type_at g at.node) p.null ≡ false → below types (type_at g at.node) p.cons ≡ true
      → step g at.node p.rest ≡ None → Walks g types p last at (Err (at.path ++ p.rest.name ∷ []))
  goes_on : (at : Place) (next : ℕ) (out : Sought (List Place)) → last ≢ Some at.node → below types (type_at g at.node) p.null ≡ false → below types (type_at g at.node) p.cons ≡ true
      → step g at.node p.rest ≡ Some next → Walks g types p last (record { node = next; path = at.path ++ p.rest.name ∷ [] }) out
      → Walks g types p last at (and_more at out)

-- an element of a list, with its two parts: an elementary predication with predicate and label, or a constraint with its arguments
pub record Pair : Type 0 where
  pub at : ℕ
  pub one : ℕ
  pub two : ℕ

abbrev pub look_pair : GraphMap → Feature → Feature → Place → Sought Pair
look_pair g one two at = chain (look g at (one ∷ [])) (λ a. chain (look g at (two ∷ [])) (λ b. Ok (record { at = at.node; one = a.node; two = b.node })))

-- the elements of a list's cells, which all are to be there, and then their parts
abbrev pub pairs_in : GraphMap → Paths → Feature → Feature → List Place → Sought (List Pair)
pairs_in g p one two cells = chain (all_there (map (λ c. look g c (p.first ∷ [])) cells)) (λ elements. all_there (map (look_pair g one two) elements))

-- The elements of the difference list at a feature of M, each with its parts. The list is walked whole before its elements are looked at.
pub data Elements (g : GraphMap) (types : TypeTable) (p : Paths) (m : Place) (list one two : Feature) : Sought (List Pair) → Type 0 where
  no_list : (path : NamedPath) → look g m (list ∷ []) ≡ Err path → Elements g types p m list one two (Err path)
  no_start : (at : Place) (path : NamedPath) → look g m (list ∷ []) ≡ Ok at → look g at (p.diff_list ∷ []) ≡ Err path → Elements g types p m list one two (Err path)
  walked : (at start : Place) (cells : Sought (List Place)) → look g m (list ∷ []) ≡ Ok at → look g at (p.diff_list ∷ []) ≡ Ok start
      → Walks g types p (step g at.node p.diff_last) start cells → Elements g types p m list one two (chain cells (pairs_in g p one two))

-- the individual constraints: none where M hasn't the feature
pub data MayElements (g : GraphMap) (types : TypeTable) (p : Paths) (m : Place) (list one two : Feature) : Sought (List Pair) → Type 0 where
  has_none : step g m.node list ≡ None → MayElements g types p m list one two (Ok [])
  has_some : (at : ℕ) (out : Sought (List Pair)) → step g m.node list ≡ Some at → Elements g types p m list one two out → MayElements g types p m list one two out

-- the nodes that an MRS is made of
pub record Parts : Type 0 where
  pub top : ℕ
  pub index : ℕ
  pub rels : List Pair
  pub hcons : List Pair
  pub icons : List Pair

-- one after the other: what is missing in the first is told, otherwise the second goes on from what was found
pub data Then {A B : Type 0} (first : Sought A → Type 0) (second : A → Sought B → Type 0) : Sought B → Type 0 where
  stops : (path : NamedPath) → first (Err path) → Then first second (Err path)
  leads : (a : A) (out : Sought B) → first (Ok a) → second a out → Then first second out

abbrev pub IsAt : GraphMap → Place → List Feature → Sought Place → Type 0
IsAt g at fs out = out ≡ look g at fs

abbrev pub root : Place
root = record { node = 0; path = [] }

-- the lists of M, in this order, once top and index are found
abbrev pub LooksAtLists : GraphMap → TypeTable → Paths → Place → Place → Place → Sought Parts → Type 0
LooksAtLists g types p m top index =
    Then (Elements g types p m p.rels p.pred p.lbl) (λ rels.
    Then (Elements g types p m p.hcons p.harg p.larg) (λ hcons.
    Then (MayElements g types p m p.icons p.iarg1 p.iarg2) (λ icons out.
    out ≡ Ok (record { top = top.node; index = index.node; rels = rels; hcons = hcons; icons = icons }))))

-- What a structure has of an MRS, or what is missing first. The order of looking: M, TOP, INDEX, RELS with the predicate and the label of each
-- element, HCONS with the two arguments of each, ICONS likewise.
abbrev pub Looks : GraphMap → TypeTable → Paths → Sought Parts → Type 0
Looks g types p = Then (IsAt g root p.mrs_path) (λ m. Then (IsAt g m p.ltop_path) (λ top. Then (IsAt g m p.index_path) (λ index. LooksAtLists g types p m top index)))
