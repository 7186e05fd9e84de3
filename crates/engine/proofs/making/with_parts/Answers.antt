use Rattle.std.proofs.Common.{sym, subst}
use Rattle.grammar_rules.specs.Lines.{AreShapesOf}
use Rattle.grammar_rules.specs.Remembered.{IsMemoryOf}
use Rattle.engine.proofs.making.with_parts.Goals as goal

pub laws-requires : goal.laws-requires
laws-requires g c =
    record {
      book = c.requires.book;
      loaded = c.requires.loaded;
      shapes = subst (AreShapesOf c.args.made.now.signs.now) (sym c.in_ok-shapes.ensures) c.requires.shapes;
      shared = subst (λ s. IsMemoryOf c.args.made.now.signs.now s c.in_ok-shared.shared) (sym c.in_ok-shapes.ensures) c.in_ok-shared.ensures;
      feeds = c.requires.feeds;
      paths = c.requires.paths;
      fits = c.requires.fits;
    }

pub run-requires-clause-ready : goal.run-requires-clause-ready
run-requires-clause-ready g c =
    record {
      book = c.requires.book;
      loaded = c.requires.loaded;
      shapes = subst (AreShapesOf c.args.made.now.signs.now) (sym c.in_ok-shapes.ensures) c.requires.shapes;
      shared = subst (λ s. IsMemoryOf c.args.made.now.signs.now s c.in_ok-shared.shared) (sym c.in_ok-shapes.ensures) c.in_ok-shared.ensures;
      feeds = c.requires.feeds;
      paths = c.requires.paths;
      fits = c.requires.fits;
    }
