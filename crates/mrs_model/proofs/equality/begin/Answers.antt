use Rattle.std.proofs.Common.{arith}
use Rattle.std.proofs.lemmas.Bool.{OnTrue_at, OnFalse_at}
use Rattle.mrs_model.proofs.Ends.{binds_on}
use Rattle.mrs_model.proofs.Listing.{agrees_none, keep_none, pairs_two}
use Rattle.mrs_model.proofs.equality.begin.Goals as goal

pub returns-then-not-branch-2-clause-none : goal.returns-then-not-branch-2-clause-none
returns-then-not-branch-2-clause-none c = λ to m a.
    (OnFalse_at c.if-not-branch-2.true c.in_ok-bind-2.ensures.no) to m
    (c.bind.ensures.told to m (agrees_none to _ _ c.in_ok-bound.ensures) (a 0 (omega arith))) (a 1 (omega arith))

pub returns-clause-begun : goal.returns-clause-begun
returns-clause-begun c = record {
  told = λ to m a. c.bind-2.ensures.told to m (c.bind.ensures.told to m (agrees_none to _ _ c.in_ok-bound.ensures) (a 0 (omega arith))) (a 1 (omega arith));
  bound = pairs_two _ c.args.top c.args.index
      (binds_on _ _ _ _ _ _ c.bind-2.ensures.grown (OnTrue_at c.if-not-branch.false c.in_ok-bind.ensures.yes)) (OnTrue_at c.if-not-branch-2.false c.in_ok-bind-2.ensures.yes);
  kept = c.bind-2.ensures.grown.kept (c.bind.ensures.grown.kept (keep_none _ _ _ _ c.in_ok-bound.ensures));
}
