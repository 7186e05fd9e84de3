use Rattle.std.specs.Prelude.{◌≡◌, ◌<◌, drop}
use Rattle.mrs_transfer.specs.Inner.Present.{place_from}
use Rattle.mrs_transfer.proofs.present.place_of.Given as goal

-- the rest leads from this place to the one that all bytes lead to
abbrev pub invariant-loop-byte : goal.invariant-loop-byte
invariant-loop-byte l = record {
  within : l.key < 4096;
  place : place_from l.key (drop l.byte-index l.byte-items) ≡ place_from 0 l.byte-items;
}
