use Rattle.std.proofs.Common.{◌<◌, length, arith, sym, ◌∙◌}
use Rattle.forced_types.specs.Forced.{same_exists, same_sym, same_trans}
use Rattle.forced_types.specs.Inner.Sound.{most_of, path_in}
use Rattle.forced_types.proofs.StepLemmas.{extended, arc_shorter}
use Rattle.forced_types.proofs.nodes.Nodes.pull_arc.Goals as goal

pub add_pair-requires-clause-forced : goal.add_pair-requires-clause-forced
add_pair-requires-clause-forced c =
    let g = c.args.given in
    let t = c.args.self.now in
    let arc = c.in-Some.ensures in
    let end = c.in-Some-arc_end.ensures.end in
    let room = arc_shorter g (path_in t c.live-to.result) _ c.in-Some.arc.feat.0 end.forced in
    let on = extended g (path_in t c.args.gone) (path_in t c.live-to.result) c.in-Some.arc.feat.0 c.live-to.ensures.same (same_exists _ _ arc.forced) room in
    same_trans _ _ _ (same_sym _ _ end.forced) (same_trans _ _ _ (same_sym _ _ on) arc.forced)

pub add_arc-requires-clause-forced : goal.add_arc-requires-clause-forced
add_arc-requires-clause-forced c =
    let g = c.args.given in
    let t = c.args.self.now in
    let arc = c.in-Some.ensures in
    let room : length (path_in t c.live-to.result) < most_of g = omega (arith, c.depth.ensures, c.most.ensures, c.if-depth-most.true) in
    let on = extended g (path_in t c.args.gone) (path_in t c.live-to.result) c.in-Some.arc.feat.0 c.live-to.ensures.same (same_exists _ _ arc.forced) room in
    same_trans _ _ _ (same_sym _ _ on) arc.forced

pub add_arc-requires-clause-lacks : goal.add_arc-requires-clause-lacks
add_arc-requires-clause-lacks c = sym c.arc_end.ensures.value ∙ c.in-None.is
