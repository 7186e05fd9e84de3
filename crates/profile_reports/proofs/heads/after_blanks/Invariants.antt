use Rattle.std.proofs.Common.{◌≡◌, length}
use Rattle.std.specs.Str.{skip_leading_whitespace}
use Rattle.profile_reports.proofs.heads.after_blanks.Given as goal

abbrev pub invariant-loop-rest : goal.invariant-loop-rest
invariant-loop-rest l = skip_leading_whitespace l.rest ≡ skip_leading_whitespace l.letters

abbrev pub decreases-loop-rest : goal.decreases-loop-rest
decreases-loop-rest l = length l.rest
