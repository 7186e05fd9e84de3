use Rattle.std.proofs.Common.{◌∙◌, sym}
use Rattle.scope_resolve.proofs.Roles.{number_here, number_past, number_end}
use Rattle.scope_resolve.proofs.building.has_number.Goals as goal

pub returns-then-is_number : goal.returns-then-is_number
returns-then-is_number c =
    sym (c.loop-role.invariant ∙ number_here c.args.numbers.now c.args.x c.args.roles.now c.loop-role.role-index c.role-item.result c.loop-role-test.true c.role-item.is (sym c.is_number.ensures ∙ c.if-is_number.true))

pub loop-role-preserved : goal.loop-role-preserved
loop-role-preserved c =
    c.loop-role.invariant ∙ number_past c.args.numbers.now c.args.x c.args.roles.now c.loop-role.role-index c.role-item.result c.loop-role-test.true c.role-item.is (sym c.is_number.ensures ∙ c.if-is_number.false)

pub returns : goal.returns
returns c = sym (c.loop-role.invariant ∙ number_end c.args.numbers.now c.args.x c.args.roles.now c.loop-role.role-index c.loop-role-test.false)
