use Rattle.std.proofs.Common.{take}
use Rattle.lexicon.specs.Words.{Has}
use Rattle.morph_analysis.proofs.written.at_colon.Given as goal

abbrev pub invariant-loop-i : goal.invariant-loop-i
invariant-loop-i l = Has 58 (take l.i l.letters) → ⊥
