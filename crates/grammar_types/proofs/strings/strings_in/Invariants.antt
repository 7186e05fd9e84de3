use Rattle.std.proofs.Common.{◌≡◌, [], take}
use Rattle.std.specs.List.{flat_map}
use Rattle.grammar_files.specs.Placings.{placed_of}
use Rattle.type_hierarchy.specs.Decls.{texts}
use Rattle.grammar_types.specs.SettleViews.{with_each, strings_written}
use Rattle.grammar_types.proofs.strings.strings_in.Given as goal

abbrev pub invariant-loop-placed : goal.invariant-loop-placed
invariant-loop-placed l = texts l.found.keys ≡ with_each [] (flat_map (λ p. strings_written (placed_of p)) (take l.placed-index l.statements))
