use Rattle.std.proofs.Common.{◌≡◌, ◌++◌, take, drop}
use Rattle.transfer_rules.specs.Forms.{letters_in}
use Rattle.transfer_rules.proofs.coreferences.letters_before.Given as goal

abbrev pub invariant-loop-at : goal.invariant-loop-at
invariant-loop-at l = letters_in l.text ≡ take l.at l.text ++ letters_in (drop l.at l.text)
