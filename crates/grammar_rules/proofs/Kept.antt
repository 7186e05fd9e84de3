-- What is known of a full structure's shape by one name of signs and shapes is known by another.
use Rattle.std.specs.Prelude.{◌≡◌}
use Rattle.std.proofs.Common.{sym, subst}
use Rattle.book_signs.specs.Trees.{SignTree}
use Rattle.grammar_shapes.specs.declared.shapes.GrammarShapes.{GrammarShapes}
use Rattle.grammar_shapes.specs.Shaped.{Shape}
use Rattle.rule_trees.specs.declared.bounded.BoundedGraph.{BoundedGraph}
use Rattle.rule_trees.specs.Mothers.{view_in}
use Rattle.grammar_rules.specs.Remembered.{MemoryTree, IsFullShape}

-- what is known by the fields of what lines share is known of it
pub shape_out : (t u : SignTree) (s : GrammarShapes) (leaves : MemoryTree) (graph : BoundedGraph) (shape : Shape) → t ≡ u → record { signs = u; shapes = s } ≡ leaves
    → IsFullShape t s (view_in t graph) shape → IsFullShape leaves.signs leaves.shapes (view_in leaves.signs graph) shape
shape_out t u s leaves graph shape e f h =
    subst (λ (l : MemoryTree). IsFullShape l.signs l.shapes (view_in l.signs graph) shape) f (subst (λ x. IsFullShape x s (view_in x graph) shape) e h)

-- and back
pub shape_in : (t u : SignTree) (s : GrammarShapes) (leaves : MemoryTree) (graph : BoundedGraph) (shape : Shape) → t ≡ u → record { signs = u; shapes = s } ≡ leaves
    → IsFullShape leaves.signs leaves.shapes (view_in leaves.signs graph) shape → IsFullShape t s (view_in t graph) shape
shape_in t u s leaves graph shape e f h =
    subst (λ x. IsFullShape x s (view_in x graph) shape) (sym e) (subst (λ (l : MemoryTree). IsFullShape l.signs l.shapes (view_in l.signs graph) shape) (sym f) h)
