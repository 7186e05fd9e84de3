use Rattle.std.proofs.Common.{◌≡◌, length, drop}
use Rattle.std.specs.Cmp.Lexicographic.{slice_cmp}
use Rattle.std.specs.Ordering.{nat_cmp, on}
use Rattle.derivation.specs.Counts.{word_count_of}
use Rattle.derivation.proofs.order.compare_counts.Given as goal

abbrev pub invariant-loop-daughter : goal.invariant-loop-daughter
invariant-loop-daughter l =
    slice_cmp (on word_count_of nat_cmp) l.daughters l.others
    ≡ slice_cmp (on word_count_of nat_cmp) (drop (length l.yielded) l.daughters) (drop (length l.yielded) l.others)
