use Rattle.std.proofs.Common.{◌≡◌, ◌∷◌, [], cond, map, take}
use Rattle.std.specs.List.{flat_map}
use Rattle.fs_unify.specs.Systems.{rules_of}
use Rattle.body_facts.specs.WordTables.{table_of}
use Rattle.grammar_files.specs.Placings.{placed_of}
use Rattle.grammar_files.specs.Statements.{defines_type}
use Rattle.type_facts.specs.Facts.{rule_of}
use Rattle.type_facts.proofs.rules.rules_in.Given as goal

abbrev pub invariant-loop-placed : goal.invariant-loop-placed
invariant-loop-placed l =
    rules_of l.rules.items
    ≡ flat_map (λ p. cond (defines_type (placed_of p)) (rule_of (table_of l.words) (map placed_of l.statements) (placed_of p) ∷ []) []) (take l.placed-index l.statements)
