use Rattle.fs_trim.specs.Cutting.{cut_of}
use Rattle.fs_trim.specs.Inner.Rows.{AreLeft}
use Rattle.fs_trim.proofs.kept.rows_of.Given as goal

abbrev pub invariant-loop-n : goal.invariant-loop-n
invariant-loop-n l = AreLeft (cut_of l.cut) l.graph l.n l.types.items l.starts.items l.arcs.items
