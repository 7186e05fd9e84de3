use Rattle.std.proofs.Common.{map, take}
use Rattle.lexicon.specs.Inner.Index.{entry_of}
use Rattle.lexicon.specs.Words.{Has}
use Rattle.lexicon.specs.Inner.Empty.{Empty}
use Rattle.lexicon.proofs.lexicon.Lexicon.words.Given as goal

abbrev pub invariant-loop-other : goal.invariant-loop-other
invariant-loop-other l = Has l.entry (map (λ e. e.number) (map entry_of (take l.other-index l.other-items))) → Empty
