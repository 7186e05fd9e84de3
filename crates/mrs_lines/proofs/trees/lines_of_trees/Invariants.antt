use Rattle.std.proofs.Common.{ℕ, ◌≡◌, ◌∷◌, List, length, map, take, string_bytes}
use Rattle.derivation.specs.Views.{derivation_of}
use Rattle.book_signs.specs.Trees.{signs_of}
use Rattle.item_reports.specs.Reports.{item_line, counts}
use Rattle.tree_structures.specs.Known.{IsRight}
use Rattle.mrs_lines.specs.Lines.{AreTreeLines}
use Rattle.mrs_lines.specs.Remembered.{semantics_in}
use Rattle.mrs_lines.proofs.trees.lines_of_trees.Given as goal

abbrev pub invariant-loop-tree : goal.invariant-loop-tree
invariant-loop-tree l =
    IsRight l.fulls l.memo × ((rest : List (List ℕ)) × (map (λ v. v.items) l.written.items ≡ item_line l.number (counts l.classes (length l.trees)) ∷ rest)
    × AreTreeLines (signs_of l.fulls) (semantics_in l.memory) (map string_bytes l.names) l.nodes (map derivation_of (take l.tree-index l.trees)) rest)
