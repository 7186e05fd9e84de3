-- What a grammar's lists are made of, and what is asked of a graph whose lists are read.
use Rattle.std.specs.Prelude.{ℕ, ◌≡◌, ◌<◌, ◌≤◌, List, Vec, String, string_bytes, map, length, All, Option, Some, IfSome}
use Rattle.std.specs.Global.{Global}
pub use Rattle.lexicon.specs.Words.{words_in}
use Rattle.std.specs.Option.{option_map}
use Rattle.type_hierarchy.specs.Table.{TypeTable, count_of}
use Rattle.fs_model.specs.Claims.{Path}
use Rattle.fs_graph.specs.GraphMap.{GraphMap, node_at}
use Rattle.closed_lists.specs.declared.names.ListNames.{ListNames}

-- the type of lists with an item, that of lists without, and the features of an item and of the rest: none for what the grammar doesn't have
pub record ListTree : Type 0 where
  pub cons : Option ℕ
  pub null : Option ℕ
  pub first : Option ℕ
  pub rest : Option ℕ

abbrev pub names_of : ListNames → ListTree
names_of n =
    record {
      cons = option_map (λ t. t.0) n.cons;
      null = option_map (λ t. t.0) n.null;
      first = option_map (λ f. f.0) n.first;
      rest = option_map (λ f. f.0) n.rest;
    }

-- The types of a graph are types of the table, as are those of the names, and no path is longer than a limit.
pub record IsReadable (types : TypeTable) (names : ListTree) (limit : ℕ) (g : GraphMap) : Type 0 where
  pub types_in : All (λ t. t < count_of types) g.types
  pub cons_in : IfSome names.cons (λ t. t < count_of types)
  pub null_in : IfSome names.null (λ t. t < count_of types)
  pub bounded : (p : Path) (n : ℕ) → node_at g p ≡ Some n → length p ≤ limit
