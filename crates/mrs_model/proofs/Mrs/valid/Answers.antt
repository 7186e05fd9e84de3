use Rattle.std.proofs.Common.{◌≡◌, List, map, length, subst, sym, arith, rules}
use Rattle.std.specs.List.{All}
use Rattle.mrs_model.specs.declared.Var.{Var}
use Rattle.mrs_model.specs.declared.Ep.{Ep}
use Rattle.mrs_model.specs.declared.Hcon.{Hcon}
use Rattle.mrs_model.specs.declared.Icon.{Icon}
use Rattle.mrs_model.specs.Views.{variable_of, predication_of, hcon_of, icon_of}
use Rattle.mrs_model.specs.Valid.{IsVariable, IsPredication, IsConstraint}
use Rattle.mrs_model.proofs.Rows.{length_rows}
use Rattle.mrs_model.proofs.Mrs.valid.Goals as goal

pub returns : goal.returns
returns c =
    let n : length (map variable_of c.args.self.now.vars.items) ≡ length c.args.self.now.vars.items = length_rows variable_of c.args.self.now.vars.items in
    let m : c.len-vars.result ≡ length (map variable_of c.args.self.now.vars.items) = search (rules, sym n) in (
      λ t. record {
        top = omega (arith, m, c.if-self-vars.false);
        index = omega (arith, m, c.if-self-vars-2.false);
        vars = subst (λ (l : List Var). All IsVariable (map variable_of l)) c.deref.ensures.value (c.are_variables.ensures.0 c.if-not-are_variables.false);
        eps = rw (← m) (subst (λ (l : List Ep). All (IsPredication c.len-vars.result) (map predication_of l)) c.deref-else-not-are_variables.ensures.value (c.are_predications.ensures.0 c.if-not-are_predications.false));
        hcons = rw (← m) (subst (λ (l : List Hcon). All (IsConstraint c.len-vars.result) (map hcon_of l)) c.deref-2.ensures.value (c.are_hcons.ensures.0 c.if-not-are_hcons.false));
        icons = rw (← m) (subst (λ (l : List Icon). All (IsConstraint c.len-vars.result) (map icon_of l)) c.deref-else-not-are_hcons.ensures.value (c.are_icons.ensures.0 c.if-not-are_icons.false));
        standing = c.all_stand.ensures.0 t;
      },
      λ v. c.all_stand.ensures.1 v.standing,
    )
