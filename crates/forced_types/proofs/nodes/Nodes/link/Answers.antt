use Rattle.std.proofs.Common.{sym, ◌∙◌}
use Rattle.forced_types.specs.Forced.{same_sym, same_trans}
use Rattle.forced_types.proofs.nodes.Nodes.link.Goals as goal

pub add_pair-requires-clause-forced : goal.add_pair-requires-clause-forced
add_pair-requires-clause-forced c = same_trans _ _ _ (same_sym _ _ c.in-Some.ensures.end.forced) c.requires.forced

pub add_arc-requires-clause-lacks : goal.add_arc-requires-clause-lacks
add_arc-requires-clause-lacks c = sym c.arc_end.ensures.value ∙ c.in-None.is
