use Rattle.std.proofs.Common.{◌≡◌, rules, subst, List, map}
use Rattle.std.proofs.lemmas.Bool.{OnTrue_at}
use Rattle.mrs_model.specs.Views.{predication_of, argument_of}
use Rattle.mrs_model.specs.Inner.Bindings.{AreJoinedArguments}
use Rattle.mrs_model.specs.declared.Role.{Role}
use Rattle.mrs_model.proofs.Rolling.{grown_on}
use Rattle.mrs_model.proofs.Ends.{eps_joined, fillers_at}
use Rattle.mrs_model.proofs.items.join_eps.Goals as goal

pub join_roles-requires-clause-here : goal.join_roles-requires-clause-here
join_roles-requires-clause-here c = fillers_at _ _ _ c.deref.ensures.value c.requires.here.args

pub join_roles-requires-clause-there : goal.join_roles-requires-clause-there
join_roles-requires-clause-there c = fillers_at _ _ _ c.deref-2.ensures.value c.requires.there.args

pub returns-in_err-join_roles-clause-grown : goal.returns-in_err-join_roles-clause-grown
returns-in_err-join_roles-clause-grown c = grown_on _ _ _ _ _ c.bind.ensures.grown c.join_roles.ensures.grown

pub returns-then-not-branch-2-clause-grown : goal.returns-then-not-branch-2-clause-grown
returns-then-not-branch-2-clause-grown c = grown_on _ _ _ _ _ c.bind.ensures.grown c.join_roles.ensures.grown

pub returns-clause-grown : goal.returns-clause-grown
returns-clause-grown c = grown_on _ _ _ _ _ c.bind.ensures.grown c.join_roles.ensures.grown

pub returns-clause-yes : goal.returns-clause-yes
returns-clause-yes c =
    let r : (predication_of c.args.x.now).pred ≡ (predication_of c.args.y.now).pred = search rules in
    eps_joined _ _ _ _ (predication_of c.args.x.now) (predication_of c.args.y.now) c.join_roles.ensures.grown r
    (OnTrue_at c.if-not-branch.false c.in_ok-bind.ensures.yes)
    (subst (λ (l : List Role). AreJoinedArguments c.join_roles.new.bound.pairs (map argument_of l) (map argument_of c.args.y.now.roles.items)) c.deref.ensures.value
    (subst (λ (l : List Role). AreJoinedArguments c.join_roles.new.bound.pairs (map argument_of c.deref.result.now) (map argument_of l)) c.deref-2.ensures.value (OnTrue_at c.if-not-branch-2.false c.in_ok-join_roles.ensures.yes)))
