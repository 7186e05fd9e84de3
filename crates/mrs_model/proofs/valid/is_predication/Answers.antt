use Rattle.std.proofs.Common.{List, map, sym, subst, arith}
use Rattle.std.specs.List.{All}
use Rattle.mrs_model.specs.declared.Role.{Role}
use Rattle.mrs_model.specs.Views.{argument_of}
use Rattle.mrs_model.specs.Valid.{Rise, IsArgument}
use Rattle.mrs_model.specs.Texts.{IsPred}
use Rattle.mrs_model.proofs.valid.is_predication.Goals as goal

pub returns-then-are_arguments : goal.returns-then-are_arguments
returns-then-are_arguments c =
    let e = c.deref-then-are_arguments.ensures.value in
    let order = λ (l : List Role). Rise (map (λ a. a.role) (map argument_of l)) in (
      λ t. record {
        pred = subst IsPred c.deref.ensures (c.is_pred.ensures.0 c.if-not-is_pred.false);
        label = omega (arith, c.if-ep-vars.false);
        args = subst (λ (l : List Role). All (IsArgument c.args.vars) (map argument_of l)) c.deref-2.ensures.value (c.are_arguments.ensures.0 c.if-are_arguments.true);
        order = subst order e (c.roles_rise.ensures.0 t);
      },
      λ p. c.roles_rise.ensures.1 (subst order (sym e) p.order),
    )
