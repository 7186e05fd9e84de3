use Rattle.std.proofs.Common.{◌≡◌, ◌<◌, [], ◌∷◌, ◌++◌, length, arith, sym, subst}
use Rattle.fs_model.specs.Claims.{same}
use Rattle.forced_types.specs.Inner.Sound.{Forces, most_of, path_in}
use Rattle.forced_types.proofs.SoundLemmas.{entry_count}
use Rattle.forced_types.proofs.LoadLemmas.{arc_there, arc_image, arc_same}
use Rattle.forced_types.proofs.nodes.Nodes.copy_arc.Goals as goal

pub image_node-requires-clause-there : goal.image_node-requires-clause-there
image_node-requires-clause-there c =
    let g = c.args.given in
    let t = c.args.self.now in
    let at = c.requires.entries.each c.args.n (omega (arith, entry_count t, c.in-Some.ensures.node)) in
    let room : length (path_in t c.args.n) < most_of g = omega (arith, c.depth.ensures, c.most.ensures, c.if-depth-most.false) in
    arc_there g (path_in t c.args.n) c.in-Some.image c.in-Some.ensures.image c.image_arc.ensures.graph at.there c.in-Some-image_arc.arc c.in-Some-image_arc.ensures.has room

pub image_node-requires-clause-image : goal.image_node-requires-clause-image
image_node-requires-clause-image c =
    let g = c.args.given in
    let t = c.args.self.now in
    let at = c.requires.entries.each c.args.n (omega (arith, entry_count t, c.in-Some.ensures.node)) in
    arc_image g (path_in t c.args.n) c.in-Some.image c.in-Some.ensures.image c.image_arc.ensures.graph at.there c.in-Some-image_arc.arc c.in-Some-image_arc.ensures.has

pub link-requires-clause-forced : goal.link-requires-clause-forced
link-requires-clause-forced c =
    let g = c.args.given in
    let t = c.args.self.now in
    let t' = c.image_node.new.self in
    let at = c.requires.entries.each c.args.n (omega (arith, entry_count t, c.in-Some.ensures.node)) in
    let room : length (path_in t c.args.n) < most_of g = omega (arith, c.depth.ensures, c.most.ensures, c.if-depth-most.false) in
    let there' = (c.in_ok-to.ensures.sound.entries.each c.in_ok-to.to (omega (arith, entry_count t', c.in_ok-to.ensures.inside))).there in
    let kept : path_in t' c.args.n ≡ path_in t c.args.n = c.in_ok-to.ensures.keeps.same_at c.args.n c.in-Some.ensures.node in
    subst (λ x. Forces g (same (x ++ c.in-Some-image_arc.arc.feat.0 ∷ []) (path_in t' c.in_ok-to.to))) (sym kept)
    (arc_same g (path_in t c.args.n) c.in-Some.image c.in-Some.ensures.image c.image_arc.ensures.graph at.there c.in-Some-image_arc.arc c.in-Some-image_arc.ensures.has room
    (path_in t' c.in_ok-to.to) c.in_ok-to.ensures.image there')
