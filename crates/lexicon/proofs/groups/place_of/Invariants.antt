use Rattle.std.proofs.Common.{◌≡◌, ◌<◌, ℕ, false, map, string_bytes}
use Rattle.lexicon.specs.Groups.{group_of}
use Rattle.lexicon.specs.Inner.Index.{group_at}
use Rattle.lexicon.specs.Entries.{same_words}
use Rattle.lexicon.proofs.groups.place_of.Given as goal

abbrev pub invariant-loop-i : goal.invariant-loop-i
invariant-loop-i l = (k : ℕ) → k < l.i → same_words (group_at (map group_of l.groups) k).words (map string_bytes l.words) ≡ false
