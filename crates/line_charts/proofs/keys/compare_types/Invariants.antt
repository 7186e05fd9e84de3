use Rattle.std.proofs.Common.{◌≡◌, length, drop}
use Rattle.std.specs.Cmp.Lexicographic.{slice_cmp}
use Rattle.std.specs.Ordering.{nat_cmp, on}
use Rattle.type_hierarchy.specs.declared.types.Ty.{Ty}
use Rattle.line_charts.proofs.keys.compare_types.Given as goal

abbrev pub invariant-loop-ty : goal.invariant-loop-ty
invariant-loop-ty l =
    slice_cmp (on (λ (t : Ty). t.0) nat_cmp) l.types l.others
    ≡ slice_cmp (on (λ (t : Ty). t.0) nat_cmp) (drop (length l.yielded) l.types) (drop (length l.yielded) l.others)
