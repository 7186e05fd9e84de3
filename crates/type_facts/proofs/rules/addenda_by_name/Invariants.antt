use Rattle.std.proofs.Common.{◌≡◌, map}
use Rattle.std.specs.List.{flat_map, range_with_len}
use Rattle.type_hierarchy.specs.Decls.{Name}
use Rattle.type_facts.specs.Notes.{noted}
use Rattle.grammar_files.specs.Placings.{placed_of}
use Rattle.grammar_files.specs.Statements.{statement_at}
use Rattle.type_facts.specs.Addenda.{place_by}
use Rattle.type_facts.proofs.rules.addenda_by_name.Given as goal

abbrev pub invariant-loop-i : goal.invariant-loop-i
invariant-loop-i l = (n : Name) → noted l.addenda.entries n ≡ flat_map (λ k. place_by n (statement_at (map placed_of l.statements) k) k) (range_with_len 0 l.i)
