use Rattle.std.proofs.Common.{◌≡◌, rules}
use Rattle.std.proofs.lemmas.Bool.{OnTrue_at}
use Rattle.mrs_model.specs.Views.{hcon_of}
use Rattle.mrs_model.proofs.Rolling.{grown_on}
use Rattle.mrs_model.proofs.Ends.{hcons_joined}
use Rattle.mrs_model.proofs.items.join_hcons.Goals as goal

pub returns-in_err-bind-2-clause-grown : goal.returns-in_err-bind-2-clause-grown
returns-in_err-bind-2-clause-grown c = grown_on _ _ _ _ _ c.bind.ensures.grown c.bind-2.ensures.grown

pub returns-then-not-branch-2-clause-grown : goal.returns-then-not-branch-2-clause-grown
returns-then-not-branch-2-clause-grown c = grown_on _ _ _ _ _ c.bind.ensures.grown c.bind-2.ensures.grown

pub returns-clause-grown : goal.returns-clause-grown
returns-clause-grown c = grown_on _ _ _ _ _ c.bind.ensures.grown c.bind-2.ensures.grown

pub returns-clause-yes : goal.returns-clause-yes
returns-clause-yes c =
    let r : (hcon_of c.args.x.now).rel ≡ (hcon_of c.args.y.now).rel = search rules in
    hcons_joined _ _ _ _ (hcon_of c.args.x.now) (hcon_of c.args.y.now) c.bind-2.ensures.grown r
    (OnTrue_at c.if-not-branch.false c.in_ok-bind.ensures.yes) (OnTrue_at c.if-not-branch-2.false c.in_ok-bind-2.ensures.yes)
