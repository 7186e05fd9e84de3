use Rattle.std.proofs.Common.{ℕ, ◌≡◌, ◌<◌, false}
use Rattle.type_hierarchy.specs.Bits.{has_bit, IsRow}
use Rattle.glb_completion.specs.Inner.Crossings.{IsUnder}
use Rattle.glb_completion.proofs.crossing.crossings.Given as goal

abbrev pub invariant-loop-x : goal.invariant-loop-x
invariant-loop-x l =
    record {
      row_is : IsRow l.h.written l.row.items;
      crossed : (y : ℕ) → y < l.x → has_bit l.row.items y ≡ false → (p : ℕ) × IsUnder l.h y p;
    }
