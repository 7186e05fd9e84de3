use Rattle.std.proofs.Common.{◌<◌, ◌≤◌, ◌∙◌, length, map, List, arith}
use Rattle.mrs_model.specs.declared.Ep.{Ep}
use Rattle.mrs_model.specs.Views.{variable_of, predication_of}
use Rattle.scope_resolve.specs.Inner.Building.{bindings_from}
use Rattle.scope_resolve.proofs.Rows.{from_next, all_rows}
use Rattle.scope_resolve.proofs.building.bindings.Goals as goal

pub loop-own-preserved : goal.loop-own-preserved
loop-own-preserved c =
    let l : c.loop-own.own < length c.args.eps.now = omega (arith, c.loop-own-test.true) in
    from_next predication_of (map variable_of c.args.vars.now) c.args.numbers.now (map predication_of c.args.eps.now) c.args.eps.now c.loop-own.own c.index-eps-own.result c.loop-own.out.items _ l c.index-eps-own.is c.loop-own.invariant c.in_ok-put_bindings_at.ensures

pub returns : goal.returns
returns c =
    let l : length c.args.eps.now ≤ c.loop-own.own = omega (arith, c.loop-own-test.false) in
    c.loop-own.invariant ∙ all_rows (λ (es : List Ep). bindings_from (map variable_of c.args.vars.now) c.args.numbers.now (map predication_of c.args.eps.now) 0 (map predication_of es)) c.args.eps.now c.loop-own.own l
