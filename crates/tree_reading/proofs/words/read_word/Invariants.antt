use Rattle.std.proofs.Common.{[], length}
use denote.Text.{Utf8}
use denote.Shadow.{shadow}
use Rattle.std.specs.String.{string_bytes}
use Rattle.tree_reading.specs.Inner.Stops.{HasAdded}
use Rattle.tree_reading.proofs.words.read_word.Given as goal

abbrev pub invariant-loop-after : goal.invariant-loop-after
invariant-loop-after l = record { text : shadow (Utf8 l.rest); added : HasAdded [] (string_bytes l.word) l.text l.rest }

abbrev pub decreases-loop-after : goal.decreases-loop-after
decreases-loop-after l = length l.rest
