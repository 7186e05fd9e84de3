use Rattle.std.proofs.Common.{sym, subst}
use Rattle.grammar_rules.specs.Lines.{AreShapesOf}
use Rattle.rows.proofs.grammars.Ready.generated.Goals as goal

pub generate-requires-clause-grammar : goal.generate-requires-clause-grammar
generate-requires-clause-grammar g c κs within =
    record {
      shapes = subst (AreShapesOf c.args.self.now.engine.signs.now) (sym c.shapes.ensures) c.requires.ready.engine.shapes;
      contributors = c.requires.ready.contributors;
      paths = c.requires.ready.paths.are;
      feats = c.requires.ready.paths.feats;
    }
