use Rattle.std.proofs.Common.{◌≡◌, ◌∷◌, [], ◌++◌, length, map, string_bytes, sym, subst, rules}
use Rattle.derivation.specs.Views.{derivation_of}
use Rattle.derivation.specs.declared.Tree.{Tree}
use Rattle.tree_model.specs.Structures.{Structure}
use Rattle.tree_model.specs.Trees.{Full}
use Rattle.book_signs.specs.Trees.{signs_of}
use Rattle.item_reports.specs.Reports.{item_line, counts, tree_line}
use Rattle.mrs_lines.specs.Lines.{Semantics, no_trees}
use Rattle.mrs_lines.specs.Remembered.{semantics_in}
use Rattle.mrs_lines.proofs.Growing.{lines_more, items_first, items_more}
use Rattle.mrs_lines.proofs.trees.lines_of_trees.Goals as goal

pub loop-tree-init : goal.loop-tree-init
loop-tree-init c =
    let pushed : c.push.new.self.items ≡ c.new-written.result.items ++ c.in_ok-counts_line.field-0 ∷ [] = search rules in
    let none : c.new-written.result.items ≡ [] = search rules in
    (c.new-memo.ensures c.args.lines.fulls.now, ([], items_first c.new-written.result.items c.push.new.self.items c.in_ok-counts_line.field-0 (item_line c.args.number (counts c.args.classes (length c.args.trees.now))) none pushed c.in_ok-counts_line.ensures, no_trees))

pub line_of_tree-requires-clause-full : goal.line_of_tree-requires-clause-full
line_of_tree-requires-clause-full c =
    subst (λ (t : Tree). (f : Structure) × Full (signs_of c.args.lines.fulls.now) (derivation_of t) f) (sym c.tree-item.is) (c.requires.full c.loop-tree.tree-index c.tree-item.result c.loop-tree-test.true)

pub loop-tree-preserved : goal.loop-tree-preserved
loop-tree-preserved c =
    let g = signs_of c.args.lines.fulls.now in
    let s : Semantics = semantics_in c.args.lines.memory.now in
    let names = map string_bytes c.args.lines.names.now in
    let nodes = c.args.lines.nodes in
    let old = c.loop-tree.invariant in
    let tree = c.tree-item.result in
    let line = c.in_ok-line_of_tree.field-0.items in
    let first : c.push-in-loop-tree.new.self.items ≡ c.loop-tree.written.items ++ c.in_ok-tree_line.field-0 ∷ [] = search rules in
    let second : c.push-in-loop-tree-2.new.self.items ≡ c.push-in-loop-tree.new.self.items ++ c.in_ok-line_of_tree.field-0 ∷ [] = search rules in
    let items = items_more c.loop-tree.written.items c.push-in-loop-tree.new.self.items c.push-in-loop-tree-2.new.self.items c.in_ok-tree_line.field-0 c.in_ok-line_of_tree.field-0
    (item_line c.args.number (counts c.args.classes (length c.args.trees.now))) old.1.0 (tree_line names nodes (derivation_of tree)) first second old.1.1 c.in_ok-tree_line.ensures in (
      c.in_ok-line_of_tree.ensures.right,
      (
        old.1.0 ++ tree_line names nodes (derivation_of tree) ∷ line ∷ [],
        items,
        lines_more g s names nodes c.args.trees.now c.loop-tree.tree-index tree old.1.0 line c.loop-tree-test.true c.tree-item.is old.1.2 c.in_ok-line_of_tree.ensures.line,
      ),
    )
