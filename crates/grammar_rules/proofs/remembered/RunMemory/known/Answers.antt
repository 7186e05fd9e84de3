use Rattle.std.proofs.Common.{sym, subst}
use Rattle.grammar_shapes.specs.Systems.{Belongs}
use Rattle.rule_trees.specs.Mothers.{view_in}
use Rattle.grammar_rules.specs.Remembered.{IsFullShape}
use Rattle.grammar_rules.proofs.Kept.{shape_out}
use Rattle.grammar_rules.proofs.remembered.RunMemory.known.Goals as goal

pub shape_again-requires : goal.shape_again-requires
shape_again-requires c = subst (λ s. Belongs s.shapes.now c.in-Some.shape.now) (sym c.of-asked.ensures) c.in-Some.ensures.belongs

pub returns : goal.returns
returns c =
    let s = c.self.inside.shapes in
    let graph = c.args.full.now.graph in
    shape_out s.signs.now c.self.inside.fulls.signs.now s.shapes.now c.args.self.now graph c.in_ok-copy.copy c.self.invariant.0 c.self.view_is
    (subst (λ x. IsFullShape x.signs.now x.shapes.now (view_in x.signs.now graph) c.in_ok-copy.copy) c.of-asked.ensures
    (c.in_ok-copy.ensures (view_in c.of-asked.result.now.signs.now graph)
    (subst (λ x. IsFullShape x.signs.now x.shapes.now (view_in x.signs.now graph) c.in-Some.shape.now) (sym c.of-asked.ensures) c.in-Some.ensures)))
