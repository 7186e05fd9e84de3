use Rattle.std.proofs.Common.{◌≡◌, ◌++◌, map, drop, string_bytes}
use Rattle.derivation.specs.Views.{derivation_of}
use Rattle.item_reports.specs.Reports.{tree_line, trees_lines}
use Rattle.item_reports.proofs.report.lines_of_trees.Given as goal

abbrev pub invariant-loop-tree : goal.invariant-loop-tree
invariant-loop-tree l =
    map (λ v. v.items) l.lines.items ++ map (tree_line (map string_bytes l.names) l.nodes) (map derivation_of (drop l.tree-index l.trees))
    ≡ trees_lines (map string_bytes l.names) l.nodes l.number l.classes (map derivation_of l.trees)
