use Rattle.std.proofs.Common.{slice_index_or}
use Rattle.fs_closing.proofs.HasLemmas.{Has-at}
use Rattle.fs_unify.proofs.owed.one_pays.Goals as goal

pub is_paid_by-requires-clause-by : goal.is_paid_by-requires-clause-by
is_paid_by-requires-clause-by c = c.requires.rules _ (Has-at c.args.rules.now c.loop-by.by-index 0 c.loop-by-test.true)

pub returns-then-is_paid_by : goal.returns-then-is_paid_by
returns-then-is_paid_by c = λ e.
    (slice_index_or c.args.rules.now c.loop-by.by-index 0, Has-at c.args.rules.now c.loop-by.by-index 0 c.loop-by-test.true, c.is_paid_by.ensures c.if-is_paid_by.true)
