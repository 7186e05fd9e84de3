use Rattle.std.proofs.Common.{◌≡◌, sym, subst}
use Rattle.fs_graph.specs.GraphMap.{reader_of}
use Rattle.fs_closing.specs.Rules.{system_of}
use Rattle.fs_unify.specs.Owing.{IsWellFormedBut}
use Rattle.fs_trim.specs.Cutting.{owed_of, IsShort}
use Rattle.sieve.specs.Sketches.{sketch_of}
use Rattle.grammar_shapes.proofs.shapes.GrammarShapes.shape_of.Goals as goal

pub returns-clause-belongs : goal.returns-clause-belongs
returns-clause-belongs c =
    let g = c.args.self.now.rules.grammar in
    let e = sym c.in_ok-new.ensures.ok in
    record {
      short = subst (λ p. IsShort g p.graph) e c.requires.short;
      well_formed = subst (λ p. IsWellFormedBut (system_of g) (reader_of p.graph) (owed_of c.args.self.now.rules.restrictors)) e c.requires.owes;
      sketched = subst (λ p. p.sketch ≡ sketch_of (reader_of p.graph) c.args.self.now.rules.checks) e c.in_ok-sketch.ensures;
    }
