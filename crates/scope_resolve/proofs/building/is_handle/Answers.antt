use Rattle.std.proofs.Common.{◌<◌, ◌≤◌, ◌∙◌, length, sym, ap, List, ℕ, arith}
use Rattle.std.specs.Prelude.{codes}
use Rattle.std.specs.Str.{bytes_eq}
use Rattle.std.specs.String.{string_bytes}
use Rattle.mrs_model.specs.declared.Var.{Var}
use Rattle.scope_resolve.proofs.Roles.{handle_there, handle_past}
use Rattle.scope_resolve.proofs.building.is_handle.Goals as goal

pub returns-then-at-vars : goal.returns-then-at-vars
returns-then-at-vars c =
    let l : c.args.v < length c.args.vars.now = omega (arith, c.if-at-vars.true) in
    handle_there c.args.vars.now c.args.v c.index-vars-at.result _ l c.index-vars-at.is
    (c.eq.ensures ∙ (ap (λ (b : List ℕ). bytes_eq b (codes "h")) c.as_str.ensures.value ∙ ap (λ (x : Var). bytes_eq (string_bytes x.sort) (codes "h")) (sym c.index-vars-at.is)))

pub returns : goal.returns
returns c =
    let l : length c.args.vars.now ≤ c.args.v = omega (arith, c.if-at-vars.false) in
    handle_past c.args.vars.now c.args.v l
