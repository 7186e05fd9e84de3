use Rattle.std.proofs.Common.{◌∙◌, ◌||◌, ◌==◌, ap, sym}
use Rattle.chart_core.specs.Grammar.{grammar_of}
use Rattle.chart_core.specs.Kept.{pending_of}
use Rattle.shared_chart.specs.Seats.{state_of, shapes_of}
use Rattle.chart_workers.specs.Turns.{GoesOn}
use Rattle.chart_workers.specs.Lending.{goes_by}
use Rattle.chart_workers.proofs.Turning.{reads_on}
use Rattle.chart_workers.proofs.over.look.Goals as goal

pub returns-then-stopped-clause-seat : goal.returns-then-stopped-clause-seat
returns-then-stopped-clause-seat g c =
    let s = c.stopped.ensures in record { same = s.seat; sees = s.sees; saw = λ e. sym s.saw ∙ s.stays e; set = s.set }

pub returns-then-stopped-clause-over : goal.returns-then-stopped-clause-over
returns-then-stopped-clause-over g c = let n = c.stopped.new.seat in sym (ap (λ b. b || (pending_of (state_of n) == 0)) (sym c.stopped.ensures.saw ∙ c.if-stopped.true))

pub returns-clause-seat : goal.returns-clause-seat
returns-clause-seat g c =
    let s = c.stopped.ensures in let n = c.stopped.new.seat in let p = c.pending.new.seat in let a = c.args.seat.now in
    let first : GoesOn (grammar_of g.S.Shapes g.S.Cover.Cover (shapes_of a)) a n = record { same = s.seat; sees = s.sees; saw = λ e. sym s.saw ∙ s.stays e; set = s.set } in
    goes_by (grammar_of g.S.Shapes g.S.Cover.Cover) a n p first (reads_on (grammar_of g.S.Shapes g.S.Cover.Cover (shapes_of n)) n p c.pending.ensures.seat c.pending.ensures.sees)

pub returns-clause-over : goal.returns-clause-over
returns-clause-over g c =
    let p = c.pending.new.seat in
    ap (λ n. n == 0) c.pending.ensures.pending ∙ sym (ap (λ b. b || (pending_of (state_of p) == 0)) (c.pending.ensures.seat.saw ∙ sym c.stopped.ensures.saw ∙ c.if-stopped.false))
