use Rattle.std.proofs.Common.{◌<◌, ◌≤◌, ◌∙◌, ◌++◌, length, map, refl, List, arith}
use Rattle.mrs_model.specs.declared.Ep.{Ep}
use Rattle.mrs_model.specs.Views.{predication_of}
use Rattle.scope_resolve.specs.Inner.Building.{bindings_with}
use Rattle.scope_resolve.proofs.Rows.{with_next, all_rows}
use Rattle.scope_resolve.proofs.building.put_bindings_with.Goals as goal

pub loop-at-preserved : goal.loop-at-preserved
loop-at-preserved c =
    let l : c.loop-at.at < length c.args.eps.now = omega (arith, c.loop-at-test.true) in
    with_next predication_of c.args.numbers.now c.args.quantifier c.args.x c.args.own c.args.eps.now c.loop-at.at c.index-eps-at.result _ _ _ _ l c.index-eps-at.is refl c.loop-at.invariant c.in_ok-put_binding.ensures

pub returns : goal.returns
returns c =
    let l : length c.args.eps.now ≤ c.loop-at.at = omega (arith, c.loop-at-test.false) in
    c.loop-at.invariant ∙ all_rows (λ (es : List Ep). c.args.out.now.items ++ bindings_with c.args.numbers.now c.args.quantifier c.args.x c.args.own 0 (map predication_of es)) c.args.eps.now c.loop-at.at l
