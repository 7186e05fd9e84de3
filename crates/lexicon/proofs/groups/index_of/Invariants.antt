use Rattle.std.proofs.Common.{map, take}
use Rattle.lexicon.specs.Inner.Index.{entry_of, IsIndexOf}
use Rattle.lexicon.proofs.groups.index_of.Given as goal

abbrev pub invariant-loop-entry : goal.invariant-loop-entry
invariant-loop-entry l = IsIndexOf (map entry_of (take l.entry-index l.entries)) l.index.entries
