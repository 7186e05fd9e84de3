use Rattle.std.proofs.Common.{◌≡◌, drop}
use Rattle.std.specs.List.{list_any}
use Rattle.type_hierarchy.specs.Table.{is_below}
use Rattle.type_hierarchy.proofs.supertypes.has_below.Given as goal

abbrev pub invariant-loop-lower : goal.invariant-loop-lower
invariant-loop-lower l = list_any (λ u. is_below l.types u l.t) (drop l.lower-index l.lowest) ≡ list_any (λ u. is_below l.types u l.t) l.lowest
