use Rattle.std.proofs.Common.{◌≡◌, take}
use Rattle.std.specs.List.{flat_map}
use Rattle.grammar_files.specs.Placings.{placed_of}
use Rattle.grammar_settings.specs.Forms.{Name}
use Rattle.grammar_types.specs.SettleViews.{parents_noted, parents_by}
use Rattle.grammar_types.proofs.declarations.added_parents.Given as goal

abbrev pub invariant-loop-placed : goal.invariant-loop-placed
invariant-loop-placed l = (n : Name) → parents_noted l.added.entries n ≡ flat_map (λ p. parents_by (placed_of p) n) (take l.placed-index l.statements)
