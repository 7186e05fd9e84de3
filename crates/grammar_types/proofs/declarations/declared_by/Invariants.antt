use Rattle.std.proofs.Common.{◌≡◌, take}
use Rattle.std.specs.List.{flat_map}
use Rattle.grammar_files.specs.Placings.{placed_of}
use Rattle.type_hierarchy.specs.Decls.{decls_of}
use Rattle.grammar_types.specs.SettleViews.{parents_noted, decl_by}
use Rattle.grammar_types.proofs.declarations.declared_by.Given as goal

abbrev pub invariant-loop-placed : goal.invariant-loop-placed
invariant-loop-placed l = decls_of l.decls.items ≡ flat_map (λ p. decl_by (parents_noted l.added.entries) (placed_of p)) (take l.placed-index l.statements)
