use Rattle.std.proofs.Common.{map, sym, subst, arith}
use Rattle.mrs_model.specs.Views.{filler_of, variable_of}
use Rattle.mrs_places.specs.Paths.{paths_of}
use Rattle.relation_fit.specs.declared.seeking.SoughtValue.TheVariants.{Var}
use Rattle.relation_fit.specs.Sought.{IsSoughtValue}
use Rattle.relation_fit.proofs.Mapped.{mapped_got}
use Rattle.relation_fit.proofs.seeking.sought_value.Goals as goal

pub returns-in_ok-sought_props-in-Var : goal.returns-in_ok-sought_props-in-Var
returns-in_ok-sought_props-in-Var c =
    let vars = c.args.vars.now in
    let x = c.index-vars-place.result in
    subst (λ v. IsSoughtValue c.args.types.now (paths_of c.args.paths.now) (map variable_of vars) (filler_of v) (Var c.in_ok-sought_props-in-Var.field-0)) (sym c.in-Var.is)
    (variable_of x, mapped_got variable_of vars c.in-Var.var x (omega (arith, c.if-place-vars.false)) c.index-vars-place.is, c.in_ok-sought_props-in-Var.ensures)
