use Rattle.std.proofs.Common.{◌≡◌, ◌++◌, take}
use Rattle.std.specs.List.{flat_map}
use Rattle.type_hierarchy.specs.Decls.{texts}
use Rattle.grammar_types.proofs.SettleBodies.{term_top}
use Rattle.grammar_types.proofs.declarations.push_top_names.Given as goal

abbrev pub invariant-loop-term : goal.invariant-loop-term
invariant-loop-term l = texts l.names.items ≡ texts l.initial.names.items ++ flat_map term_top (take l.term-index l.body.terms.items)
