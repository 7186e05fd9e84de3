use Rattle.std.proofs.Common.{◌<◌, All, take}
use Rattle.structure_rows.proofs.sample.are_types.Given as goal

abbrev pub invariant-loop-ty : goal.invariant-loop-ty
invariant-loop-ty l = All (λ t. t.0 < l.count) (take l.ty-index l.types)
