use Rattle.std.proofs.Common.{◌<◌, length, refl, arith}
use Rattle.mrs_reading.proofs.Agreeing.{yes_weaker, no_weaker, given_at, other_at}
use Rattle.mrs_reading.proofs.table.give_at.Goals as goal

pub returns-clause-given : goal.returns-clause-given
returns-clause-given c =
    let vs = c.args.vars.now in
    let l : c.args.at < length vs.items = omega (arith, c.requires, vs.ok.0) in
    yes_weaker c.give.result (λ g. given_at vs.items c.args.at c.index_mut-var.result.now (record c.index_mut-var.result.now { props = c.give.new.props }) (record { name = c.args.name.now; value = c.args.value.now }) _ l c.index_mut-var.ensures.value refl refl g) c.give.ensures.given

pub returns-clause-other : goal.returns-clause-other
returns-clause-other c =
    let vs = c.args.vars.now in
    let l : c.args.at < length vs.items = omega (arith, c.requires, vs.ok.0) in
    no_weaker c.give.result (λ h. other_at vs.items c.args.at c.index_mut-var.result.now (record { name = c.args.name.now; value = c.args.value.now }) l c.index_mut-var.ensures.value h) c.give.ensures.other
