use Rattle.std.proofs.Common.{◌≡◌, drop}
use Rattle.mrs_model.specs.Digest.{text_key}
use Rattle.mrs_model.proofs.keys.text_key.Given as goal

abbrev pub invariant-loop-byte : goal.invariant-loop-byte
invariant-loop-byte l = text_key l.sum (drop l.byte-index l.byte-items) ≡ text_key l.fn.key l.byte-items
