use Rattle.std.proofs.Common.{◌∙◌, ◌++◌, map, ap, Option, ℕ, List}
use Rattle.mrs_model.specs.declared.Role.{Role}
use Rattle.mrs_model.specs.Views.{variable_of, argument_of}
use Rattle.mrs_model.specs.Meanings.{Argument}
use Rattle.scope_model.specs.Frames.{variable_in}
use Rattle.scope_resolve.specs.Inner.Building.{handle_of, opening_with, openings_with}
use Rattle.scope_resolve.proofs.Rows.{flat_next, all_rows}
use Rattle.scope_resolve.proofs.building.put_openings.Goals as goal

pub loop-role-preserved : goal.loop-role-preserved
loop-role-preserved c =
    let vars = map variable_of c.args.vars.now in
    let ns = c.args.numbers.now in
    flat_next argument_of (λ (a : Argument). opening_with c.args.label (handle_of vars ns (variable_in a.filler))) c.args.roles.now c.loop-role.role-index c.role-item.result _ _ _ c.loop-role-test.true c.role-item.is c.loop-role.invariant
    (c.in_ok-put_opening.ensures ∙ ap (λ (h : Option ℕ). c.loop-role.out.items ++ opening_with c.args.label h) (c.handle-hole.ensures ∙ ap (handle_of vars ns) c.variable_of_value-variable.ensures))

pub returns : goal.returns
returns c = c.loop-role.invariant ∙ all_rows (λ (rs : List Role). c.args.out.now.items ++ openings_with (map variable_of c.args.vars.now) c.args.numbers.now c.args.label (map argument_of rs)) c.args.roles.now c.loop-role.role-index c.loop-role-test.false
