use Rattle.std.proofs.Common.{map, take}
use Rattle.tree_structures.specs.Known.{AreAt, kept, numbers_of, view_of}
use Rattle.tree_structures.proofs.numbering.fulls_at.Given as goal

abbrev pub invariant-loop-i : goal.invariant-loop-i
invariant-loop-i l = AreAt (kept l.fulls l.memo.known.items) (take l.i (numbers_of l.numbers)) (map (view_of l.fulls) l.daughters.items)
