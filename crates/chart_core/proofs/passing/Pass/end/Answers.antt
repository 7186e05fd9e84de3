use Rattle.std.proofs.Common.{subst}
use Rattle.chart_core.specs.Grammar.{grammar_of}
use Rattle.chart_core.specs.CoreView.{leaves_of, limits_of}
use Rattle.chart_core.specs.Counted.{IsDecision}
use Rattle.chart_core.proofs.Passes.{none_pending, passed_at, refused}
use Rattle.chart_core.proofs.passing.Pass.end.Goals as goal

pub decide-requires-clause-done : goal.decide-requires-clause-done
decide-requires-clause-done g c =
    let s = c.args._shapes.now in
    none_pending (grammar_of g.S.Shapes g.S.Cover.Cover s) (g.met.S.Shapes.laws s) c.args.self c.requires.passing c.requires.none

pub returns-in-Ok : goal.returns-in-Ok
returns-in-Ok g c =
    let s = c.args._shapes.now in
    let core = c.args.self.core in
    let decided = subst (IsDecision (g.S.Shapes.calculus s) (limits_of core) (leaves_of (g.S.Shapes.meaning s) core)) c.in-Ok.is (c.decide.ensures s c.requires.passing.sure.core) in
    passed_at (grammar_of g.S.Shapes g.S.Cover.Cover s) (g.met.S.Shapes.laws s) c.args.self c.requires.passing (g.S.Shapes.full s) (g.S.Shapes.agrees s) (g.met.S.Shapes.agreement s)
    (none_pending (grammar_of g.S.Shapes g.S.Cover.Cover s) (g.met.S.Shapes.laws s) c.args.self c.requires.passing c.requires.none) decided.0

pub returns : goal.returns
returns g c =
    let s = c.args._shapes.now in
    let core = c.args.self.core in
    let decided = subst (IsDecision (g.S.Shapes.calculus s) (limits_of core) (leaves_of (g.S.Shapes.meaning s) core)) c.in-Err.is (c.decide.ensures s c.requires.passing.sure.core) in
    refused (g.S.Shapes.calculus s) (limits_of core) (leaves_of (g.S.Shapes.meaning s) core) c.in-Err.fault decided
