use Rattle.std.proofs.Common.{◌≡◌, Some, arith, sym, ◌∙◌}
use Rattle.forced_types.specs.Inner.Sound.{IsImage, path_in}
use Rattle.forced_types.proofs.SoundLemmas.{entry_count}
use Rattle.forced_types.proofs.LoadLemmas.{image_in}
use Rattle.forced_types.proofs.nodes.Nodes.image_at.Goals as goal

pub graph_of-requires-clause-part : goal.graph_of-requires-clause-part
graph_of-requires-clause-part c =
    let t = c.args.self.now in
    let was : c.image.result ≡ Some c.in_ok-image.image = c.in_ok-image.was in
    let im : IsImage c.args.given.parts.now (path_in t c.args.n) c.in_ok-image.image =
    (c.requires.entries.each c.args.n (omega (arith, entry_count t, c.if-n-size.false, c.size.ensures))).image c.in_ok-image.image (sym c.image.ensures ∙ was) in
    im.part_in

pub returns : goal.returns
returns c =
    let t = c.args.self.now in
    let was : c.image.result ≡ Some c.in_ok-image.image = c.in_ok-image.was in
    let im : IsImage c.args.given.parts.now (path_in t c.args.n) c.in_ok-image.image =
    (c.requires.entries.each c.args.n (omega (arith, entry_count t, c.if-n-size.false, c.size.ensures))).image c.in_ok-image.image (sym c.image.ensures ∙ was) in
    record {
      node = omega (arith, c.if-n-size.false, c.size.ensures);
      image = im;
      inside = image_in c.args.given (path_in t c.args.n) c.in_ok-image.image im c.graph_of.ensures.graph;
    }
