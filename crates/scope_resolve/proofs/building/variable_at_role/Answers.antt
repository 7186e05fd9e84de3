use Rattle.std.proofs.Common.{◌≡◌, ◌∙◌, sym, ap, true, false}
use Rattle.std.specs.Str.{bytes_eq}
use Rattle.std.specs.String.{string_bytes}
use Rattle.scope_resolve.proofs.Roles.{role_here, role_on, role_end}
use Rattle.scope_resolve.proofs.building.variable_at_role.Goals as goal

pub returns-then-eq : goal.returns-then-eq
returns-then-eq c =
    let e : bytes_eq (string_bytes c.role-item.result.name) c.args.name.now ≡ true = sym (ap (λ b. bytes_eq b c.args.name.now) c.as_str.ensures.value) ∙ (sym c.eq.ensures ∙ c.if-eq.true) in
    c.variable_of_value.ensures ∙ sym (c.loop-role.invariant ∙ role_here c.args.name.now c.args.roles.now c.loop-role.role-index c.role-item.result c.loop-role-test.true c.role-item.is e)

pub loop-role-preserved : goal.loop-role-preserved
loop-role-preserved c =
    let e : bytes_eq (string_bytes c.role-item.result.name) c.args.name.now ≡ false = sym (ap (λ b. bytes_eq b c.args.name.now) c.as_str.ensures.value) ∙ (sym c.eq.ensures ∙ c.if-eq.false) in
    c.loop-role.invariant ∙ role_on c.args.name.now c.args.roles.now c.loop-role.role-index c.role-item.result c.loop-role-test.true c.role-item.is e

pub returns : goal.returns
returns c = sym (c.loop-role.invariant ∙ role_end c.args.name.now c.args.roles.now c.loop-role.role-index c.loop-role-test.false)
