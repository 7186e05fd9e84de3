-- What stands behind a hierarchy and its completed types: names, and rows of bits.
use Rattle.std.specs.Prelude.{ℕ, ◌<◌, ◌≤◌, ◌^◌, Option, List, [], map, length, take, slice_index_or, position, Vec, String, All}
use Rattle.std.specs.Global.{Global}
use Rattle.type_hierarchy.specs.Bits.{bits_below, IsRow}
use Rattle.type_hierarchy.specs.Decls.{texts}
use Rattle.type_hierarchy.specs.Table.{TypeTable, is_same, intersection}
use Rattle.type_hierarchy.specs.Named.{ArePlaces}
use Rattle.type_hierarchy.specs.Inner.Marks.{AreMarks}
use Rattle.type_hierarchy.specs.Inner.Columns.{AreColumns}
use Rattle.type_hierarchy.specs.Laws.{IsOrder, IsClosed, IsHierarchy}

-- the sets that rows stand for
abbrev pub sets_of : ℕ → List (Vec ℕ Global) → List (List ℕ)
sets_of written rows = map (λ row. bits_below written row.items) rows

abbrev pub types_table : List (String Global) → List (Vec ℕ Global) → ℕ → ℕ → TypeTable
types_table names rows written string_type =
    record {
      names = texts names;
      sets = sets_of written rows;
      written = written;
      string_type = string_type;
    }

abbrev pub hierarchy_table : List (String Global) → List (Vec ℕ Global) → ℕ → TypeTable
hierarchy_table names rows string_type = types_table names rows (length rows) string_type

pub record IsHierarchyInside (names : List (String Global)) (rows : List (Vec ℕ Global)) (string_type : ℕ) : Type 0 where
  pub rows_are : All (λ row. IsRow (length rows) row.items) rows
  pub laws : IsHierarchy (hierarchy_table names rows string_type)

pub record IsTypesInside (names : List (String Global)) (rows : List (Vec ℕ Global)) (written string_type : ℕ) (places : List (String Global × ℕ)) (marks : List ℕ) (columns : List (Vec ℕ Global)) : Type 0 where
  pub rows_are : All (λ row. IsRow written row.items) rows
  pub few : written ≤ 16386
  pub numbered : length names < 2 ^ 32
  pub order : IsOrder (types_table names rows written string_type)
  pub closed : IsClosed (types_table names rows written string_type)
  pub places_are : ArePlaces places (take (length rows) (texts names))
  pub marks_are : AreMarks rows marks
  pub columns_are : AreColumns written rows columns

abbrev pub row_items : List (Vec ℕ Global) → ℕ → List ℕ
row_items rows k = slice_index_or (map (λ row. row.items) rows) k []

-- the place of the row that has the members of two rows in common
abbrev pub place_of_common : ℕ → List (Vec ℕ Global) → List ℕ → List ℕ → Option ℕ
place_of_common n rows x y =
    position (is_same (intersection (bits_below n x) (bits_below n y))) (map (λ row. bits_below n row.items) rows)
