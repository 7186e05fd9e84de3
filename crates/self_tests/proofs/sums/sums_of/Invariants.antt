use Rattle.std.proofs.Common.{◌≡◌, ◌+◌, ◌*◌, ◌≤◌, drop}
use Rattle.self_tests.specs.Summaries.{refused_of, classes_of, readings_of}
use Rattle.self_tests.proofs.sums.sums_of.Given as goal

abbrev pub invariant-loop-count : goal.invariant-loop-count
invariant-loop-count l = record {
  refused : l.sums.refused + refused_of (drop l.count-index l.counts) ≡ refused_of l.counts;
  classes : l.sums.classes + classes_of (drop l.count-index l.counts) ≡ classes_of l.counts;
  readings : l.sums.readings + readings_of (drop l.count-index l.counts) ≡ readings_of l.counts;
  few_refused : l.sums.refused ≤ l.count-index;
  few_classes : l.sums.classes ≤ l.count-index * 4294967295;
  few_readings : l.sums.readings ≤ l.count-index * 4294967295;
}
