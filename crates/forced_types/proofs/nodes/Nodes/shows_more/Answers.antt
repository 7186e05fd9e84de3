use Rattle.forced_types.proofs.CountLemmas.{shown_more}
use Rattle.forced_types.proofs.nodes.Nodes.shows_more.Goals as goal

pub returns : goal.returns
returns c = λ more. shown_more c.args.given c.args.self.now c.args.limit c.in_ok-few.few c.requires (c.is_flat.ensures c.if-not-is_flat.false) c.in_ok-few.ensures more
