use Rattle.std.proofs.Common.{◌≡◌, ◌<◌, ◌∙◌, All, IfSome, length, sym, ap, subst, arith, Vec, Global}
use Rattle.std.proofs.lemmas.List.Elements.{All-push}
use Rattle.mrs_model.specs.Views.{property_of, variable_of}
use Rattle.mrs_places.specs.Paths.{paths_of}
use Rattle.mrs_extract.specs.Inner.Routes.{joined, numbers_of}
use Rattle.relation_fit.specs.declared.seeking.SoughtProp.{SoughtProp}
use Rattle.relation_fit.specs.Sought.{IsValue, AreNamed, IsSoughtProp}
use Rattle.relation_fit.proofs.Mapped.{mapped_has}
use Rattle.relation_fit.proofs.seeking.sought_props.Goals as goal
use Rattle.relation_fit.proofs.seeking.sought_props.Goals.{in-Some+in_ok-push, in_default}

pub loop-k-preserved : goal.loop-k-preserved
loop-k-preserved c =
    let types = c.args.types.now in
    let p = paths_of c.args.paths.now in
    let v = variable_of c.args.var.now in
    elim c.match-branch-2.branch [
      | in-Some+in_ok-push w ↦
          (let x = w.in-Some.prop in
          let told = subst (λ o. IfSome o (λ y. (0 < length y.path.items) × All (λ f. f < length p.feats) (numbers_of y.path.items) × (joined p (numbers_of y.path.items) ≡ (property_of c.index.result.now).name) × AreNamed types (IsValue types (property_of c.index.result.now).value) y.value)) w.in-Some.is c.in_ok-prop.ensures in
          let is : IsSoughtProp types p v x =
          record {
            prop = property_of c.index.result.now;
            has = mapped_has property_of c.args.var.now.props.items c.loop-k.k c.index.result.now (omega (arith, c.loop-k-test.true, c.len-k-end.ensures, c.args.var.now.props.ok.0)) c.index.ensures;
            filled = told.0;
            inside = told.1;
            name = told.2;
            value = told.3;
          } in
          subst (All (IsSoughtProp types p v)) (sym (ap (λ (xs : Vec SoughtProp Global). xs.items) w.props-is ∙ w.in_ok-push.ensures.items)) (All-push (IsSoughtProp types p v) c.loop-k.props.items x c.loop-k.invariant is))
      | in_default w ↦ subst (All (IsSoughtProp types p v)) (sym (ap (λ (xs : Vec SoughtProp Global). xs.items) w.props-is)) c.loop-k.invariant
    ]
