use Rattle.std.proofs.Common.{drop}
use Rattle.book_signs.specs.Inner.Noted.{AreNoted}
use Rattle.book_signs.specs.Inner.Kept.{kinds_in}
use Rattle.book_signs.proofs.kinds.kinds_of.Given as goal

abbrev pub invariant-loop-i : goal.invariant-loop-i
invariant-loop-i l = AreNoted (kinds_in l.instances) l.i (drop l.i (kinds_in l.instances)) l.kinds
