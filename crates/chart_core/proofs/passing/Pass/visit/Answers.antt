use Rattle.std.proofs.Common.{refl, subst, arith}
use Rattle.chart_core.specs.Grammar.{grammar_of}
use Rattle.chart_core.specs.Passing.{IsFound}
use Rattle.chart_core.proofs.Visits.{past_done, note_true, past_note, enter_true, past_enter}
use Rattle.chart_core.proofs.passing.Pass.visit.Goals as goal

pub returns-in-Done-clause-taking : goal.returns-in-Done-clause-taking
returns-in-Done-clause-taking g c = λ far short below inside h.
    let s = c.args.shapes.now in
    let G = grammar_of g.S.Shapes g.S.Cover.Cover s in
    let f = subst (IsFound G c.args.self.now.core c.args.self.now.seen) c.in-Done.is c.in_ok-found.ensures in
    past_done G (g.met.S.Shapes.laws s) c.args.self.now c.requires.sure _ refl refl refl refl refl f.0 far short f.1 h

pub returns-in_ok-add-in-Mother-clause-sure : goal.returns-in_ok-add-in-Mother-clause-sure
returns-in_ok-add-in-Mother-clause-sure g c =
    let s = c.args.shapes.now in
    let G = grammar_of g.S.Shapes g.S.Cover.Cover s in
    let f = subst (IsFound G c.args.self.now.core c.args.self.now.seen) c.in-Mother.is c.in_ok-found.ensures in
    record {
      core = c.requires.sure.core;
      true_notes = note_true G (g.met.S.Shapes.laws s) c.args.self.now c.requires.sure c.add.new.self c.in-Mother.size c.in-Mother.level f c.in_ok-add-in-Mother.ensures;
      inside = let m = c.requires.made in omega arith;
    }

pub returns-in_ok-add-in-Mother-clause-taking : goal.returns-in_ok-add-in-Mother-clause-taking
returns-in_ok-add-in-Mother-clause-taking g c = λ far short below inside h.
    let s = c.args.shapes.now in
    let G = grammar_of g.S.Shapes g.S.Cover.Cover s in
    let f = subst (IsFound G c.args.self.now.core c.args.self.now.seen) c.in-Mother.is c.in_ok-found.ensures in
    past_note G (g.met.S.Shapes.laws s) c.args.self.now c.requires.sure c.add.new.self c.in-Mother.size c.in-Mother.level f c.in_ok-add-in-Mother.ensures far short h

pub returns-in_ok-settle-in-Enters-clause-sure : goal.returns-in_ok-settle-in-Enters-clause-sure
returns-in_ok-settle-in-Enters-clause-sure g c =
    let s = c.args.shapes.now in
    let G = grammar_of g.S.Shapes g.S.Cover.Cover s in
    let f = subst (IsFound G c.args.self.now.core c.args.self.now.seen) c.in-Enters.is c.in_ok-found.ensures in
    let e = c.in_ok-settle-in-Enters.ensures in
    record {
      core = e.core;
      true_notes = enter_true G (g.met.S.Shapes.laws s) c.args.self.now c.requires.sure c.settle.new.self c.in-Enters.outcome f e.settled;
      inside = let m = c.requires.made in let n = e.over.more in omega arith;
    }

pub returns-in_ok-settle-in-Enters-clause-taking : goal.returns-in_ok-settle-in-Enters-clause-taking
returns-in_ok-settle-in-Enters-clause-taking g c = λ far short below inside h.
    let s = c.args.shapes.now in
    let G = grammar_of g.S.Shapes g.S.Cover.Cover s in
    let f = subst (IsFound G c.args.self.now.core c.args.self.now.seen) c.in-Enters.is c.in_ok-found.ensures in
    past_enter G (g.met.S.Shapes.laws s) c.args.self.now c.requires.sure c.settle.new.self c.in-Enters.outcome f c.in_ok-settle-in-Enters.ensures.settled far short below inside h
