use Rattle.std.proofs.Common.{◌≡◌, map, take}
use Rattle.type_hierarchy.specs.Decls.{Name}
use Rattle.grammar_files.specs.Placings.{placed_of}
use Rattle.constraint_expand.specs.Unknowns.{is_defined}
use Rattle.constraint_expand.specs.Found.{has_text_key}
use Rattle.constraint_expand.proofs.unknown.defined_names.Given as goal

abbrev pub invariant-loop-placed : goal.invariant-loop-placed
invariant-loop-placed l = (n : Name) → has_text_key l.names.keys n ≡ is_defined (map placed_of (take l.placed-index l.statements)) n
