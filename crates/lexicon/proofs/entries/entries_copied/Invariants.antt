use Rattle.std.proofs.Common.{◌≡◌, map, take}
use Rattle.lexicon.specs.Groups.{given_of}
use Rattle.lexicon.specs.Inner.Index.{entry_of}
use Rattle.lexicon.proofs.entries.entries_copied.Given as goal

abbrev pub invariant-loop-pair : goal.invariant-loop-pair
invariant-loop-pair l = map entry_of l.out.items ≡ map given_of (take l.pair-index l.given)
