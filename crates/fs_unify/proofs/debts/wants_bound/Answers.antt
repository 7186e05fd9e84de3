use Rattle.std.proofs.Common.{inl, sym}
use Rattle.fs_unify.proofs.BoundLemmas.{has_last}
use Rattle.fs_unify.proofs.debts.wants_bound.Goals as goal

pub returns-then-is_bound : goal.returns-then-is_bound
returns-then-is_bound c = λ e.
    let same = c.is_bound.ensures c.if-is_bound.true in
    inl (has_last c.args.bounds.now c.in-Some.last.now c.args.n c.args.introducer (sym c.in-Some.ensures.value) same.0 same.1)
