use Rattle.std.proofs.Common.{◌≡◌, ◌∙◌, arith, rules, length, ◌<◌}
use Rattle.std.proofs.lemmas.Bool.{OnTrue_at, OnFalse_at}
use Rattle.mrs_model.proofs.Rolling.{grown_on, role_read, joined_read, all_joined, done_more}
use Rattle.mrs_model.proofs.join.join_roles.Goals as goal

pub returns-in_err-join_role-clause-told : goal.returns-in_err-join_role-clause-told
returns-in_err-join_role-clause-told c = λ to m a e.
    c.join_role.ensures.told to m (c.loop-k.invariant.told to m a e) (role_read to c.args.xs.now c.args.ys.now c.loop-k.k _ _ c.index-xs-k.is c.index-ys-k.is c.loop-k-test.true e)

pub returns-then-not-branch-clause-told : goal.returns-then-not-branch-clause-told
returns-then-not-branch-clause-told c = λ to m a e.
    c.join_role.ensures.told to m (c.loop-k.invariant.told to m a e) (role_read to c.args.xs.now c.args.ys.now c.loop-k.k _ _ c.index-xs-k.is c.index-ys-k.is c.loop-k-test.true e)

pub returns-then-not-branch-clause-no : goal.returns-then-not-branch-clause-no
returns-then-not-branch-clause-no c = λ to m a e.
    (OnFalse_at c.if-not-branch.true c.in_ok-join_role.ensures.no) to m (c.loop-k.invariant.told to m a e) (role_read to c.args.xs.now c.args.ys.now c.loop-k.k _ _ c.index-xs-k.is c.index-ys-k.is c.loop-k-test.true e)

pub loop-k-preserved : goal.loop-k-preserved
loop-k-preserved c =
    let same : length c.args.xs.now ≡ length c.args.ys.now = search rules in
    let ly : c.loop-k.k < length c.args.ys.now = omega (arith, same, c.loop-k-test.true) in
    record {
      size = c.join_role.ensures.size ∙ c.loop-k.invariant.size;
      grown = grown_on _ _ _ _ _ c.loop-k.invariant.grown c.join_role.ensures.grown;
      told = λ to m a e. c.join_role.ensures.told to m (c.loop-k.invariant.told to m a e) (role_read to c.args.xs.now c.args.ys.now c.loop-k.k _ _ c.index-xs-k.is c.index-ys-k.is c.loop-k-test.true e);
      done = done_more _ _ _ _ c.args.xs.now c.args.ys.now c.loop-k.k c.join_role.ensures.grown c.loop-k.invariant.done
          (joined_read _ c.args.xs.now c.args.ys.now c.loop-k.k _ _ c.index-xs-k.is c.index-ys-k.is c.loop-k-test.true ly (OnTrue_at c.if-not-branch.false c.in_ok-join_role.ensures.yes));
    }

pub returns-clause-yes : goal.returns-clause-yes
returns-clause-yes c =
    let same : length c.args.xs.now ≡ length c.args.ys.now = search rules in
    all_joined _ c.args.xs.now c.args.ys.now same (λ j d e l. c.loop-k.invariant.done j d e (omega (arith, l, c.loop-k-test.false)))
