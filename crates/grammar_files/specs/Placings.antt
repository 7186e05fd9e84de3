-- What contracts see of a placed statement.
use Rattle.std.specs.Prelude.{ℕ}
use Rattle.tdl_reader.specs.declared.Status.{Status}
use Rattle.tdl_reader.specs.Trees.{StatementTree}
use Rattle.tdl_reader.specs.Views.{statement_of}
use Rattle.grammar_files.specs.declared.placed.Placed.{Placed}

-- a definition or an addendum, what its environment makes of it, and the number of its file in order of reading
pub record PlacedTree : Type 0 where
  pub statement : StatementTree
  pub status : Status
  pub file : ℕ

abbrev pub placed_of : Placed → PlacedTree
placed_of p = record { statement = statement_of p.statement; status = p.status; file = p.file }
