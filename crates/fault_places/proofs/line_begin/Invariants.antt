use Rattle.std.proofs.Common.{◌≡◌, ◌+◌, drop}
use Rattle.fault_places.specs.Places.{line_begin}
use Rattle.fault_places.proofs.line_begin.Given as goal

abbrev pub invariant-loop-i : goal.invariant-loop-i
invariant-loop-i l = line_begin l.text l.line ≡ l.i + line_begin (drop l.i l.text) l.left
