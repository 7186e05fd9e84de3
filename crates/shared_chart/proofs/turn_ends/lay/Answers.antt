use Rattle.std.proofs.Common.{◌∙◌, ◌∷◌, ◌++◌, [], ap, Some}
use Rattle.shared_chart.proofs.Parts.{opened}
use Rattle.shared_chart.proofs.turn_ends.lay.Goals as goal

pub new-requires : goal.new-requires
new-requires g c = opened _ _ _ _ g.M.Machine.itself _ c.args.seats _ c.args.object _ _ _ c.from.ensures c.of.ensures c.of-2.ensures (c.in_ok-push.ensures.items ∙ ap (λ l. l ++ Some c.args.object ∷ []) c.new-slots.ensures.items) c.requires.0 c.ranges.seats.fits c.requires.1 c.requires.2
