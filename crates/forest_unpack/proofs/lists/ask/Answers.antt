use Rattle.forest_unpack.specs.Items.{chosen_items}
use Rattle.forest_unpack.proofs.Adding.{none_made}
use Rattle.forest_unpack.proofs.Reaching.{parts_reached}
use Rattle.forest_unpack.proofs.lists.ask.Goals as goal

pub apply-requires-clause-reached : goal.apply-requires-clause-reached
apply-requires-clause-reached g c =
    let fulls = c.args.fulls.now in
    parts_reached (g.F.Fulls.value fulls) (g.F.Fulls.wholes fulls) (g.F.Fulls.named fulls) (chosen_items c.args.chosen.now) _ c.in_ok-parts.ensures.are c.requires.reached

pub returns-in-None-clause-found : goal.returns-in-None-clause-found
returns-in-None-clause-found g c = none_made (g.F.Fulls.value c.args.fulls.now) (g.F.Fulls.wholes c.args.fulls.now) c.args.rule (chosen_items c.args.chosen.now) _ c.in_ok-parts.ensures.are (rw c.in-None.is at c.in_ok-apply.ensures)
