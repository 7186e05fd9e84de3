use Rattle.std.proofs.Common.{ℕ, List, length, map}
use Rattle.std.specs.String.{string_bytes}
use Rattle.std.specs.Char.{to_ascii_lowercase}
use Rattle.mrs_extract.specs.Extraction.{Normal}
use Rattle.generate_model.proofs.names.normal.Given as goal

abbrev pub decreases-ends : goal.decreases-ends
decreases-ends l = length (string_bytes l.pred)

abbrev pub invariant-ends : goal.invariant-ends
invariant-ends l = (out : List ℕ) → Normal (string_bytes l.pred) out → Normal (map to_ascii_lowercase l.text) out
