use Rattle.std.proofs.Common.{◌≡◌, take, map, All, Some}
use Rattle.fs_graph.specs.GraphMap.{reader_of}
use Rattle.fs_closing.specs.Rules.{system_of}
use Rattle.fs_unify.specs.Entering.{IsWellFormed}
use Rattle.book_signs.specs.Trees.{signs_of, rule_at}
use Rattle.grammar_shapes.specs.Ruled.{rule_of, IsRuleIn}
use Rattle.engine.proofs.rules.phrase_rules.Given as goal

abbrev pub invariant-loop-place : goal.invariant-loop-place
invariant-loop-place l =
    (map (λ r. Some (rule_of l.signs.book.system r)) l.rules.items ≡ map (rule_at (signs_of l.signs)) (take l.place-index l.places))
    × All (IsRuleIn l.signs.book.system) l.rules.items × All (λ r. IsWellFormed (system_of l.signs.book.system) (reader_of r.structure.now)) l.rules.items
