-- What a grammar's book is of.
use Rattle.std.specs.Prelude.{List}
use Rattle.type_hierarchy.specs.Table.{TypeTable}
use Rattle.grammar_files.specs.Placings.{PlacedTree}
use Rattle.constraint_expand.specs.declared.books.Book.{Book}
use Rattle.constraint_expand.specs.Books.{IsBookOf}
use Rattle.constraint_expand.specs.Systems.{Settled}

-- statements expand to it under some settings
pub record IsSomeBook (b : Book) : Type 0 where
  pub types : TypeTable
  pub settled : Settled
  pub statements : List PlacedTree
  pub is : IsBookOf types settled statements b
