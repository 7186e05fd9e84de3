use Rattle.std.proofs.Common.{sym, subst}
use Rattle.grammar_rules.specs.Lines.{AreShapesOf}
use Rattle.generate_commands.proofs.answering.Generator.answer_to.Goals as goal

pub generate_alone-requires-clause-grammar : goal.generate_alone-requires-clause-grammar
generate_alone-requires-clause-grammar c =
    record {
      shapes = subst (AreShapesOf c.args.self.now.engine.signs.now) (sym c.shapes.ensures) c.requires.ready.engine.shapes;
      contributors = c.requires.ready.contributors;
      paths = c.laws.ensures.paths.are;
      feats = c.laws.ensures.paths.feats;
    }

pub generate_alone-requires-clause-limits : goal.generate_alone-requires-clause-limits
generate_alone-requires-clause-limits c = c.requires.ready.limits
