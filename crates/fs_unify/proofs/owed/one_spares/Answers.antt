use Rattle.fs_closing.proofs.HasLemmas.{Has-at}
use Rattle.fs_unify.proofs.owed.one_spares.Goals as goal

pub is_spared-requires-clause-by : goal.is_spared-requires-clause-by
is_spared-requires-clause-by c = c.requires.rules _ (Has-at c.args.rules.now c.loop-by.by-index 0 c.loop-by-test.true)
