use Rattle.std.proofs.Common.{subst}
use Rattle.grammar_rules.specs.Remembered.{IsFullShape}
use Rattle.grammar_rules.proofs.remembered.LeafShapesAsked.same.Goals as goal

pub returns : goal.returns
returns c = λ yes number told h.
    let s = c.args.self.now in
    subst (λ full. IsFullShape s.signs.now s.shapes.now full told) (c.same.ensures yes) h
