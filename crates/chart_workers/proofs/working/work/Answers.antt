use Rattle.std.proofs.Common.{◌∙◌, sym, subst}
use Rattle.chart_core.specs.Grammar.{grammar_of}
use Rattle.shared_chart.specs.Seats.{state_of}
use Rattle.chart_workers.specs.Turns.{GoesOn}
use Rattle.chart_workers.specs.Lending.{goes_itself, goes_then}
use Rattle.chart_workers.specs.Endings.{IsFullAt, EndsAs}
use Rattle.chart_workers.proofs.Turning.{ends_after}
use Rattle.chart_workers.proofs.working.work.Goals as goal

pub loop-init : goal.loop-init
loop-init g c = goes_itself (grammar_of g.S.Shapes g.S.Cover.Cover c.args.shapes.now) c.args.post.now.seat c.requires.core

pub returns-in_default : goal.returns-in_default
returns-in_default g c =
    let gr = grammar_of g.S.Shapes g.S.Cover.Cover c.args.shapes.now in let a = c.args.post.now.seat in let l = c.loop.post.seat in let t = c.take.new.seat in let i = c.loop.invariant in
    let taken = goes_then gr a l t i (subst (λ s. GoesOn (grammar_of g.S.Shapes g.S.Cover.Cover s) l t) (i.same.shapes ∙ sym c.requires.shapes) c.take.ensures.seat) in
    let p = c.last.new.seat in
    ends_after gr a t p c.last.result taken (subst (λ s. EndsAs (grammar_of g.S.Shapes g.S.Cover.Cover s) t c.last.result p) (taken.same.shapes ∙ sym c.requires.shapes) c.last.ensures)

pub loop-preserved : goal.loop-preserved
loop-preserved g c =
    let gr = grammar_of g.S.Shapes g.S.Cover.Cover c.args.shapes.now in let a = c.args.post.now.seat in let l = c.loop.post.seat in let t = c.take.new.seat in let i = c.loop.invariant in
    let taken = goes_then gr a l t i (subst (λ s. GoesOn (grammar_of g.S.Shapes g.S.Cover.Cover s) l t) (i.same.shapes ∙ sym c.requires.shapes) c.take.ensures.seat) in
    goes_then gr a t c.one_task.new.post.seat taken c.one_task.ensures.seat

pub returns-in-Over : goal.returns-in-Over
returns-in-Over g c =
    let gr = grammar_of g.S.Shapes g.S.Cover.Cover c.args.shapes.now in let a = c.args.post.now.seat in let l = c.loop.post.seat in let t = c.take.new.seat in let i = c.loop.invariant in
    let taken = goes_then gr a l t i (subst (λ s. GoesOn (grammar_of g.S.Shapes g.S.Cover.Cover s) l t) (i.same.shapes ∙ sym c.requires.shapes) c.take.ensures.seat) in
    let o = c.one_task.new.post.seat in let worked = goes_then gr a t o taken c.one_task.ensures.seat in
    let p = c.last-in-Over.new.seat in
    ends_after gr a o p c.last-in-Over.result worked (subst (λ s. EndsAs (grammar_of g.S.Shapes g.S.Cover.Cover s) o c.last-in-Over.result p) (worked.same.shapes ∙ sym c.requires.shapes) c.last-in-Over.ensures)

pub give_up-requires-clause-why : goal.give_up-requires-clause-why
give_up-requires-clause-why g c =
    let gr = grammar_of g.S.Shapes g.S.Cover.Cover c.args.shapes.now in let a = c.args.post.now.seat in let l = c.loop.post.seat in let t = c.take.new.seat in let i = c.loop.invariant in
    let taken = goes_then gr a l t i (subst (λ s. GoesOn (grammar_of g.S.Shapes g.S.Cover.Cover s) l t) (i.same.shapes ∙ sym c.requires.shapes) c.take.ensures.seat) in
    let o = c.one_task.new.post.seat in let worked = goes_then gr a t o taken c.one_task.ensures.seat in
    subst (λ s. IsFullAt (grammar_of g.S.Shapes g.S.Cover.Cover s) (state_of o) c.in-Full.made) (sym (worked.same.shapes ∙ sym c.requires.shapes)) c.in-Full.ensures.turned

pub returns-in-Full : goal.returns-in-Full
returns-in-Full g c =
    let gr = grammar_of g.S.Shapes g.S.Cover.Cover c.args.shapes.now in let a = c.args.post.now.seat in let l = c.loop.post.seat in let t = c.take.new.seat in let i = c.loop.invariant in
    let taken = goes_then gr a l t i (subst (λ s. GoesOn (grammar_of g.S.Shapes g.S.Cover.Cover s) l t) (i.same.shapes ∙ sym c.requires.shapes) c.take.ensures.seat) in
    let o = c.one_task.new.post.seat in let worked = goes_then gr a t o taken c.one_task.ensures.seat in
    let p = c.give_up.new.seat in
    ends_after gr a o p c.give_up.result worked (subst (λ s. EndsAs (grammar_of g.S.Shapes g.S.Cover.Cover s) o c.give_up.result p) (worked.same.shapes ∙ sym c.requires.shapes) c.give_up.ensures)

pub returns-in-NoMemory : goal.returns-in-NoMemory
returns-in-NoMemory g c =
    let gr = grammar_of g.S.Shapes g.S.Cover.Cover c.args.shapes.now in let a = c.args.post.now.seat in let l = c.loop.post.seat in let t = c.take.new.seat in let i = c.loop.invariant in
    let taken = goes_then gr a l t i (subst (λ s. GoesOn (grammar_of g.S.Shapes g.S.Cover.Cover s) l t) (i.same.shapes ∙ sym c.requires.shapes) c.take.ensures.seat) in
    let o = c.one_task.new.post.seat in let worked = goes_then gr a t o taken c.one_task.ensures.seat in
    let p = c.give_up-in-NoMemory.new.seat in
    ends_after gr a o p c.give_up-in-NoMemory.result worked (subst (λ s. EndsAs (grammar_of g.S.Shapes g.S.Cover.Cover s) o c.give_up-in-NoMemory.result p) (worked.same.shapes ∙ sym c.requires.shapes) c.give_up-in-NoMemory.ensures)
