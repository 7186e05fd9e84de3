use Rattle.std.proofs.Common.{◌<◌, length, map, take, string_bytes}
use Rattle.tree_faults.specs.WordBooks.{said_by}
use Rattle.tree_faults.specs.Inner.Ends.{AreEnds, front_of}
use Rattle.tree_faults.proofs.endings.ends_of.Given as goal

abbrev pub invariant-loop-i : goal.invariant-loop-i
invariant-loop-i l = AreEnds (said_by l.book) l.entry (take l.i l.rules) (front_of (said_by l.book) l.entry) (map string_bytes l.ends.items) × (0 < length l.ends.items)
