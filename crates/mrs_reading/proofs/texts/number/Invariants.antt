use Rattle.std.proofs.Common.{◌≡◌, ◌<◌, ◌^◌, take}
use Rattle.mrs_reading.specs.Meaning.{AreDigits, number_after}
use Rattle.mrs_reading.proofs.texts.number.Given as goal

abbrev pub invariant-loop-byte : goal.invariant-loop-byte
invariant-loop-byte l = (l.number ≡ number_after 0 (take l.byte-index l.byte-items)) × AreDigits (take l.byte-index l.byte-items) × (l.number < 2 ^ 32)
