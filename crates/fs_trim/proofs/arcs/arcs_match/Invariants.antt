use Rattle.fs_trim.specs.Matching.{AreArcsMet}
use Rattle.fs_trim.proofs.arcs.arcs_match.Given as goal

abbrev pub invariant-loop-arc : goal.invariant-loop-arc
invariant-loop-arc l = AreArcsMet l.general l.special l.arcs l.others l.fn.marks l.marks l.arc-index l.place
