-- Lists of relations as they are read.
use Rattle.std.specs.Prelude.{ℕ, Option, Some, None, Ok, Err, List, [], ◌∷◌, option_map}
use Rattle.fs_graph.specs.GraphMap.{GraphMap, type_at}
use Rattle.type_hierarchy.specs.Table.{TypeTable}
use Rattle.mrs_places.specs.Paths.{Feature, Paths}
use Rattle.mrs_places.specs.Looking.{NamedPath, Place, Walks, follow}
use Rattle.mrs_places.specs.Inner.Walked.{cells_from}
use Rattle.generate_model.specs.Contributing.{IsList}

-- what a walk from a node finds: these cells, or no list
abbrev pub IsWalked : GraphMap → TypeTable → Paths → Option ℕ → ℕ → Option (List ℕ) → Type 0
IsWalked g types p last start None = (path : NamedPath) × Walks g types p last (record { node = start; path = [] }) (Err path)
IsWalked g types p last start (Some cells) = Walks g types p last (record { node = start; path = [] }) (Ok (cells_from p.rest.name [] cells))

-- the cells of RELS at a path, or none where there is no list
abbrev pub IsListOf : GraphMap → TypeTable → Paths → List Feature → Option (List ℕ) → Type 0
IsListOf g types p base None = (cells : List Place) → IsList g types p base cells → ⊥
IsListOf g types p base (Some cells) = IsList g types p base (cells_from p.rest.name [] cells)

-- the type at PRED of a cell's element
abbrev pub type_at_pred : GraphMap → Paths → ℕ → Option ℕ
type_at_pred g p cell = option_map (type_at g) (follow g (p.first ∷ p.pred ∷ []) (Some cell))

abbrev pub on_some : Option ℕ → List ℕ → List ℕ
on_some None ts = ts
on_some (Some t) ts = t ∷ ts

-- those of some cells
abbrev pub types_in : GraphMap → Paths → List ℕ → List ℕ
types_in g p [] = []
types_in g p (c ∷ cs) = on_some (type_at_pred g p c) (types_in g p cs)
