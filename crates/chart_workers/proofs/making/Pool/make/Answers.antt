use Rattle.std.proofs.Common.{◌∙◌, subst}
use Rattle.chart_workers.specs.Making.{IsCut}
use Rattle.chart_workers.proofs.Pooled.{made_pool, made_fresh}
use Rattle.chart_workers.proofs.making.Pool.make.Goals as goal

pub returns-clause-pool : goal.returns-clause-pool
returns-clause-pool c =
    let d = c.in_ok-deques.ensures in let r = c.in_ok-rows.ensures in let s = c.in_ok-seats.ensures in
    made_pool c.args.workers c.rows.new.deques.items c.in_ok-deques.deques.items c.in_ok-rows.rows.items c.in_ok-seats.seats.items (r.count ∙ d.count)
    s.own s.doors s.numbers (λ t x there. subst (λ k. IsCut k t x) d.count (r.cut t x there)) r.places r.rows r.new

pub returns-clause-fresh : goal.returns-clause-fresh
returns-clause-fresh c =
    let d = c.in_ok-deques.ensures in let r = c.in_ok-rows.ensures in let s = c.in_ok-seats.ensures in
    made_fresh c.args.workers c.rows.new.deques.items c.in_ok-deques.deques.items c.in_ok-rows.rows.items c.in_ok-seats.seats.items (r.count ∙ d.count)
    s.own s.doors s.numbers (λ t x there. subst (λ k. IsCut k t x) d.count (r.cut t x there)) r.places r.rows r.new
