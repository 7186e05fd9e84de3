use Rattle.std.proofs.Common.{◌≡◌, ◌≤◌, take}
use Rattle.lexicon.specs.Words.{Each}
use Rattle.morph_analysis.specs.LatticeLines.{value_of}
use Rattle.std.specs.Char.{is_ascii_digit}
use Rattle.std.specs.Prelude.{true}
use Rattle.morph_analysis.proofs.written.number.Given as goal

abbrev pub invariant-loop-c : goal.invariant-loop-c
invariant-loop-c l = record {
  digits : Each (λ d. is_ascii_digit d ≡ true) (take l.c-index l.letters);
  value : l.value ≡ value_of 0 (take l.c-index l.letters);
  within : l.value ≤ 65534;
}
