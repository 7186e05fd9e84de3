use Rattle.std.proofs.Common.{◌≡◌, ◌<◌, ◌∙◌, All, IfSome, length, map, sym, ap, subst, Vec, Global}
use Rattle.std.proofs.lemmas.List.Elements.{All-push}
use Rattle.mrs_model.specs.Views.{argument_of, variable_of}
use Rattle.mrs_places.specs.Paths.{paths_of}
use Rattle.mrs_extract.specs.Extraction.{feature_name}
use Rattle.relation_fit.specs.declared.seeking.SoughtRole.{SoughtRole}
use Rattle.relation_fit.specs.Sought.{IsSoughtRole, IsSoughtValue}
use Rattle.relation_fit.proofs.Mapped.{mapped_has}
use Rattle.relation_fit.proofs.seeking.sought_roles.Goals as goal
use Rattle.relation_fit.proofs.seeking.sought_roles.Goals.{in-Some+in_ok-push, in_default}

pub loop-k-preserved : goal.loop-k-preserved
loop-k-preserved c =
    let types = c.args.types.now in
    let p = paths_of c.args.paths.now in
    let vars = map variable_of c.args.vars.now in
    let args = map argument_of c.args.roles.now in
    let arg = argument_of c.index-roles-k.result in
    elim c.match-branch-2.branch [
      | in-Some+in_ok-push w ↦
          (let x = w.in-Some.role in
          let told = subst (λ o. IfSome o (λ r. (r.feat.0 < length p.feats) × (feature_name p r.feat.0 ≡ arg.role) × IsSoughtValue types p vars arg.filler r.value)) w.in-Some.is c.in_ok-role.ensures in
          let is : IsSoughtRole types p vars args x =
          record { arg = arg; has = mapped_has argument_of c.args.roles.now c.loop-k.k c.index-roles-k.result c.loop-k-test.true c.index-roles-k.is; inside = told.0; named = told.1; value = told.2 } in
          subst (All (IsSoughtRole types p vars args)) (sym (ap (λ (xs : Vec SoughtRole Global). xs.items) w.found-is ∙ w.in_ok-push.ensures.items)) (All-push (IsSoughtRole types p vars args) c.loop-k.found.items x c.loop-k.invariant is))
      | in_default w ↦ subst (All (IsSoughtRole types p vars args)) (sym (ap (λ (xs : Vec SoughtRole Global). xs.items) w.found-is)) c.loop-k.invariant
    ]
