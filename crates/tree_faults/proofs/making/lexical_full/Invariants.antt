use Rattle.std.proofs.Common.{take}
use Rattle.tree_model.specs.Lexical.{FullLexical}
use Rattle.book_signs.specs.Trees.{signs_of}
use Rattle.tree_structures.specs.Known.{view_of}
use Rattle.tree_faults.proofs.making.lexical_full.Given as goal

abbrev pub invariant-loop-i : goal.invariant-loop-i
invariant-loop-i l = FullLexical (signs_of l.signs) l.entry (take l.i l.rules) (view_of l.signs l.full)
