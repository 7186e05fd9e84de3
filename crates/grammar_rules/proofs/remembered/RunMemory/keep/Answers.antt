use Rattle.std.proofs.Common.{sym, subst}
use Rattle.grammar_shapes.specs.Systems.{Belongs}
use Rattle.rule_trees.specs.Fulls.{FullTree}
use Rattle.rule_trees.specs.Mothers.{view_in}
use Rattle.grammar_rules.specs.Remembered.{IsFullShape}
use Rattle.grammar_rules.proofs.Kept.{shape_in}
use Rattle.grammar_rules.proofs.remembered.RunMemory.keep.Goals as goal

pub shape_again-requires : goal.shape_again-requires
shape_again-requires c =
    let s = c.self.inside.shapes in
    let known = shape_in s.signs.now c.self.inside.fulls.signs.now s.shapes.now c.args.self.now c.args.full.now.graph c.args.shape.now c.self.invariant.0 c.self.view_is c.requires in
    subst (λ x. Belongs x.shapes.now c.args.shape.now) (sym c.of-asked.ensures) known.belongs

pub keep-requires : goal.keep-requires
keep-requires c =
    let s = c.self.inside.shapes in
    let graph = c.args.full.now.graph in
    let known = shape_in s.signs.now c.self.inside.fulls.signs.now s.shapes.now c.args.self.now graph c.args.shape.now c.self.invariant.0 c.self.view_is c.requires in
    subst (λ (f : FullTree). IsFullShape s.signs.now s.shapes.now (view_in s.signs.now f.graph) c.in_ok-copy.copy) (sym c.in_ok-key.ensures)
    (subst (λ x. IsFullShape x.signs.now x.shapes.now (view_in x.signs.now graph) c.in_ok-copy.copy) c.of-asked.ensures
    (c.in_ok-copy.ensures (view_in c.of-asked.result.now.signs.now graph)
    (subst (λ x. IsFullShape x.signs.now x.shapes.now (view_in x.signs.now graph) c.args.shape.now) (sym c.of-asked.ensures) known)))
