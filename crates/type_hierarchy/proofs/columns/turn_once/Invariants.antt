use Rattle.std.proofs.Common.{◌≡◌, length}
use Rattle.type_hierarchy.proofs.SquareLemmas.{HasMade}
use Rattle.type_hierarchy.proofs.columns.turn_once.Given as goal

abbrev pub invariant-loop-i : goal.invariant-loop-i
invariant-loop-i l =
    record {
      size : length l.to ≡ 64;
      made : HasMade l.shift l.mask l.from l.to l.i;
    }
