use Rattle.std.proofs.Common.{◌≡◌, ◌++◌, replicate}
use Rattle.derivation.proofs.text.close.Given as goal

abbrev pub invariant-loop-closed : goal.invariant-loop-closed
invariant-loop-closed l = l.into.items ≡ l.initial.into.items ++ replicate l._closed 41
