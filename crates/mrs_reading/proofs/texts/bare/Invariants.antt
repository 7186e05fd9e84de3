use Rattle.std.proofs.Common.{ℕ, List, length}
use denote.Shadow.{shadow}
use denote.Text.{Utf8}
use Rattle.mrs_reading.specs.Meaning.{Normal}
use Rattle.mrs_reading.proofs.texts.bare.Given as goal

abbrev pub invariant-loop-front : goal.invariant-loop-front
invariant-loop-front l = record { text : shadow (Utf8 l.rest); same : (p : List ℕ) → Normal l.rest p → Normal l.pred p }

abbrev pub decreases-loop-front : goal.decreases-loop-front
decreases-loop-front l = length l.rest
