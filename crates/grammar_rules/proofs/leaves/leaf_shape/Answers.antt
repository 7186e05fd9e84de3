use Rattle.std.proofs.Common.{sym, subst}
use Rattle.rule_trees.specs.Mothers.{view_in}
use Rattle.grammar_rules.specs.Remembered.{MemoryTree, IsFullShape}
use Rattle.grammar_rules.proofs.leaves.leaf_shape.Goals as goal

pub keep-requires : goal.keep-requires
keep-requires c =
    subst (λ (l : MemoryTree). IsFullShape l.signs l.shapes (view_in l.signs c.args.full.now.graph) c.in_ok-shape.shape) (sym c.requires.shared)
    (record { belongs = c.in_ok-shape.ensures.belongs; shape = c.in_ok-shape.ensures.shape })

pub returns-in-Some : goal.returns-in-Some
returns-in-Some c =
    subst (λ (l : MemoryTree). IsFullShape l.signs l.shapes (view_in l.signs c.args.full.now.graph) c.in-Some.shape) c.requires.shared (rw c.in-Some.is at c.in_ok-known.ensures)

pub returns : goal.returns
returns c = record { belongs = c.in_ok-shape.ensures.belongs; shape = c.in_ok-shape.ensures.shape }
