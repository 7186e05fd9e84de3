use Rattle.std.proofs.Common.{◌∙◌, sym, subst}
use Rattle.chart_core.specs.Grammar.{grammar_of}
use Rattle.chart_workers.specs.Turns.{GoesOn}
use Rattle.chart_workers.specs.Lending.{goes_itself, goes_then}
use Rattle.chart_workers.proofs.working.enter_one.Goals as goal

pub loop-init : goal.loop-init
loop-init g c = goes_itself (grammar_of g.S.Shapes g.S.Cover.Cover c.args.shapes.now) c.args.seat.now c.requires.core

pub returns-then-look-clause-seat : goal.returns-then-look-clause-seat
returns-then-look-clause-seat g c =
    let gr = grammar_of g.S.Shapes g.S.Cover.Cover c.args.shapes.now in let a = c.args.seat.now in let t = c.turn.new.seat in let p = c.look.new.seat in
    let first = goes_then gr a c.loop.seat t c.loop.invariant c.turn.ensures.seat in
    goes_then gr a t p first (subst (λ s. GoesOn (grammar_of g.S.Shapes g.S.Cover.Cover s) t p) (first.same.shapes ∙ sym c.requires.shapes) c.look.ensures.seat)

pub loop-preserved : goal.loop-preserved
loop-preserved g c =
    let gr = grammar_of g.S.Shapes g.S.Cover.Cover c.args.shapes.now in let a = c.args.seat.now in let t = c.turn.new.seat in let p = c.look.new.seat in
    let first = goes_then gr a c.loop.seat t c.loop.invariant c.turn.ensures.seat in
    goes_then gr a t p first (subst (λ s. GoesOn (grammar_of g.S.Shapes g.S.Cover.Cover s) t p) (first.same.shapes ∙ sym c.requires.shapes) c.look.ensures.seat)
