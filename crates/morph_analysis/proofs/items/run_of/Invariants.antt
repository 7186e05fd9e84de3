use Rattle.std.proofs.Common.{◌≡◌, take}
use Rattle.lexicon.specs.Words.{Each}
use Rattle.std.specs.Char.{is_whitespace}
use Rattle.morph_analysis.proofs.items.run_of.Given as goal

abbrev pub invariant-loop-i : goal.invariant-loop-i
invariant-loop-i l = Each (λ c. is_whitespace c ≡ l.blank) (take l.i l.letters)
