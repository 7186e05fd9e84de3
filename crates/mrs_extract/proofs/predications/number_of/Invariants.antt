use Rattle.std.proofs.Common.{◌≡◌, ◌<◌, take, true}
use Rattle.std.specs.Prelude.{All, ◌^◌}
use Rattle.mrs_extract.specs.Extraction.{is_digit, number_after}
use Rattle.mrs_extract.proofs.predications.number_of.Given as goal

abbrev pub invariant-loop-byte : goal.invariant-loop-byte
invariant-loop-byte l = record {
  digits : All (λ b. is_digit b ≡ true) (take l.byte-index l.text);
  is : l.number ≡ number_after 0 (take l.byte-index l.text);
  small : l.number < 2 ^ 32;
}
