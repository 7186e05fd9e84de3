use Rattle.std.proofs.Common.{◌≡◌, ◌++◌, ℕ, List, length}
use denote.Text.{Utf8}
use denote.Shadow.{shadow}
use Rattle.std.specs.List.{All}
use Rattle.tree_reading.proofs.reading.after_blanks.Given as goal

abbrev pub invariant-loop-after : goal.invariant-loop-after
invariant-loop-after l = record { text : shadow (Utf8 l.rest); passed : (blanks : List ℕ) × All (λ byte. byte ≡ 32) blanks × (l.line ≡ blanks ++ l.rest) }

abbrev pub decreases-loop-after : goal.decreases-loop-after
decreases-loop-after l = length l.rest
