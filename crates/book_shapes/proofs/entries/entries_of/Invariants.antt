use Rattle.std.proofs.Common.{map, option_map}
use Rattle.lexicon.specs.Groups.{given_of}
use Rattle.book_shapes.proofs.EntryLemmas.{EntriesSoFar}
use Rattle.book_shapes.proofs.entries.entries_of.Given as goal

abbrev pub invariant-loop-i : goal.invariant-loop-i
invariant-loop-i l = EntriesSoFar l.book (map (option_map (λ f. f.0)) l.orth) l.i (map given_of l.out.items)
