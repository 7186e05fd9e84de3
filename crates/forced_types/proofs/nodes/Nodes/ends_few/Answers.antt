use Rattle.std.proofs.Common.{subst}
use Rattle.type_hierarchy.specs.Laws.{HasTypeLaws}
use Rattle.forced_types.proofs.CountLemmas.{closed_counts}
use Rattle.forced_types.proofs.nodes.Nodes.ends_few.Goals as goal

pub returns : goal.returns
returns c =
    closed_counts c.args.given c.args.self.now c.args.limit c.in_ok-few.few c.requires.sound c.requires.closed (subst HasTypeLaws c.types.ensures c.laws.ensures) c.in_ok-few.ensures
