use Rattle.std.proofs.Common.{◌≡◌, take, map}
use Rattle.sieve.specs.Sketches.{paths_of}
use Rattle.grammar_shapes.specs.Inner.Tables.{sketch_at}
use Rattle.grammar_shapes.proofs.rule_table.row.Given as goal

abbrev pub invariant-loop-place : goal.invariant-loop-place
invariant-loop-place l = l.row.items ≡ map (sketch_at l.checks l.rule) (paths_of (take l.place-index l.place-items))
