-- The predicates that stand in the RELS of a structure, at a path (Copestake, Flickinger, Pollard and Sag 2005).
use Rattle.std.specs.Prelude.{ℕ, ◌≡◌, Option, Some, None, Ok, List, [], ◌∷◌, ◌++◌, map}
use Rattle.std.specs.List.{AllZip}
use Rattle.std.specs.Char.{to_ascii_lowercase}
use Rattle.fs_graph.specs.GraphMap.{GraphMap, type_at}
use Rattle.type_hierarchy.specs.Table.{TypeTable}
use Rattle.mrs_places.specs.Paths.{Feature, Paths}
use Rattle.mrs_places.specs.Looking.{Place, step, follow, Walks}
use Rattle.mrs_extract.specs.Extraction.{type_name, Normal}

-- RELS at a path has these cells: it is there, and the walk along its list comes to the list's end
pub record IsList (g : GraphMap) (types : TypeTable) (p : Paths) (base : List Feature) (cells : List Place) : Type 0 where
  pub rels : ℕ
  pub there : follow g (base ++ p.rels ∷ []) (Some 0) ≡ Some rels
  pub start : ℕ
  pub begins : step g rels p.diff_list ≡ Some start
  pub walks : Walks g types p (step g rels p.diff_last) (record { node = start; path = [] }) (Ok cells)

-- the node at PRED of a cell's element, where it is there
abbrev pub pred_node : GraphMap → Paths → Place → Option ℕ
pred_node g p cell = follow g (p.first ∷ p.pred ∷ []) (Some cell.node)

abbrev pub and_type : GraphMap → Option ℕ → List ℕ → List ℕ
and_type g None ts = ts
and_type g (Some n) ts = type_at g n ∷ ts

-- the types at PRED of those elements that have it
abbrev pub pred_types : GraphMap → Paths → List Place → List ℕ
pred_types g p [] = []
pred_types g p (c ∷ cs) = and_type g (pred_node g p c) (pred_types g p cs)

-- The types of predicates in RELS at a path, in order: none where the list is missing or open. An element without PRED has none.
pub data PredTypes (g : GraphMap) (types : TypeTable) (p : Paths) (base : List Feature) : List ℕ → Type 0 where
  listed : (cells : List Place) → IsList g types p base cells → PredTypes g types p base (pred_types g p cells)
  unlisted : ((cells : List Place) → IsList g types p base cells → ⊥) → PredTypes g types p base []

-- a predicate by its type: the name in lower case, without an ending `_rel`
abbrev pub IsNamed : TypeTable → ℕ → List ℕ → Type 0
IsNamed types t pred = Normal (map to_ascii_lowercase (type_name types t)) pred

-- the predicates
pub record Predicates (g : GraphMap) (types : TypeTable) (p : Paths) (base : List Feature) (preds : List (List ℕ)) : Type 0 where
  pub by_type : List ℕ
  pub types_are : PredTypes g types p base by_type
  pub named : AllZip (IsNamed types) by_type preds

-- A structure has one list of predicates at a path.
abbrev pub PredicatesAreOne : Type 0
PredicatesAreOne = (g : GraphMap) (types : TypeTable) (p : Paths) (base : List Feature) (a b : List (List ℕ)) → Predicates g types p base a → Predicates g types p base b → a ≡ b
