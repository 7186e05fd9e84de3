use Rattle.std.proofs.Common.{map, take, string_bytes}
use Rattle.std.specs.Str.{IsUtf8}
use Rattle.command_line.specs.Fronts.{IsAt}
use Rattle.command_line.specs.WordInner.{Ends}
use Rattle.command_line.proofs.word_reading.first_fault.Given as goal

abbrev pub invariant-loop-at : goal.invariant-loop-at
invariant-loop-at l = IsAt (take l.at (map (λ w. string_bytes w) l.words)) l.place × Ends (take l.at (map (λ w. string_bytes w) l.words)) l.last × IsUtf8 l.last
