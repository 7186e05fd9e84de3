use Rattle.std.proofs.Common.{◌≡◌, ◌++◌, map, take}
use Rattle.std.specs.List.{flat_map}
use Rattle.fs_graph.specs.Facts.{claims_of}
use Rattle.body_facts.specs.WordTables.{table_of}
use Rattle.grammar_files.specs.Placings.{placed_of}
use Rattle.grammar_files.specs.Statements.{statement_at}
use Rattle.type_facts.specs.Facts.{said_by}
use Rattle.type_facts.proofs.rules.facts_of_type.Given as goal

abbrev pub invariant-loop-place : goal.invariant-loop-place
invariant-loop-place l =
    claims_of l.all.items
    ≡ said_by (table_of l.words) (placed_of l.placed) ++ flat_map (λ k. said_by (table_of l.words) (statement_at (map placed_of l.statements) k)) (take l.place-index l.addenda)
