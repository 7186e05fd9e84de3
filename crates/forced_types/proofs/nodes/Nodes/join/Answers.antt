use Rattle.forced_types.specs.Forced.{same_sym, same_trans}
use Rattle.forced_types.proofs.nodes.Nodes.join.Goals as goal

pub merge-requires-clause-forced : goal.merge-requires-clause-forced
merge-requires-clause-forced c =
    same_trans _ _ _ (same_sym _ _ c.live-b.ensures.same) (same_trans _ _ _ (same_sym _ _ c.requires.pair.equal) c.live-a.ensures.same)

pub merge-requires-else-depth-clause-forced : goal.merge-requires-else-depth-clause-forced
merge-requires-else-depth-clause-forced c =
    same_trans _ _ _ (same_sym _ _ c.live-a.ensures.same) (same_trans _ _ _ c.requires.pair.equal c.live-b.ensures.same)
