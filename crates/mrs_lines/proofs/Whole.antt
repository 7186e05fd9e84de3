-- The line of a tree, by that of its full structure.
use Rattle.std.proofs.Common.{ℕ, ◌≡◌, List, subst}
use Rattle.rule_trees.specs.declared.bounded.BoundedGraph.{BoundedGraph}
use Rattle.derivation.specs.Trees.{Derivation}
use Rattle.tree_model.specs.Trees.{Full}
use Rattle.book_signs.specs.Trees.{SignTree, signs_of}
use Rattle.rule_trees.specs.Mothers.{view_in}
use Rattle.mrs_lines.specs.Lines.{IsMrsLine}
use Rattle.mrs_lines.specs.Remembered.{MrsSigns, IsFullLine, IsLineIn, semantics_in}

pub of_line : (m : MrsSigns) (t : SignTree) → m.signs ≡ t → (tree : Derivation) (graph : BoundedGraph) (line : List ℕ) → Full (signs_of t) tree (view_in t graph) → IsLineIn m (view_in m.signs graph) line
    → IsMrsLine (signs_of t) (semantics_in m) tree line
of_line m t same tree graph line full h =
    let l : IsFullLine (signs_of t) (semantics_in m) (view_in t graph) line = subst (λ (u : SignTree). IsFullLine (signs_of u) (semantics_in m) (view_in u graph) line) same h in
    record { full = view_in t graph; is_full = full; graph = l.graph; meant = l.meant; outcome = l.outcome; extracts = l.extracts; line_is = l.line_is }
