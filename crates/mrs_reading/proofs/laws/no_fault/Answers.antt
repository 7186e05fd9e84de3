use Rattle.std.specs.Str.{chars}
use Rattle.mrs_reading.proofs.Meant.{no_place}
use Rattle.mrs_reading.proofs.laws.no_fault.Goals as goal

pub returns : goal.returns
returns c = λ line m at u h p. no_place line m at u (λ front f. c.not_both.ensures (chars line) front h.toks h.spelled h.keeps f) p
