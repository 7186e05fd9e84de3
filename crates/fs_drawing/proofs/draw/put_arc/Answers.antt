use Rattle.std.proofs.Common.{ℕ, ◌<◌, ◌≤◌, length, slice_index, sym, subst}
use Rattle.fs_graph.specs.GraphMap.{Rises}
use Rattle.fs_graph.specs.Visits.{feats_of}
use Rattle.fs_drawing.proofs.DrawRows.{puts_arc}
use Rattle.fs_drawing.proofs.draw.put_arc.Goals as goal

pub place_of-place-requires : goal.place_of-place-requires
place_of-place-requires c = subst Rises (sym c.deref.ensures.value) c.requires.rises

pub returns : goal.returns
returns c =
    let place = c.place_of-place.ensures in
    let is = c.deref.ensures.value in
    let i = c.place_of-place.result in
    puts_arc c.args.row.now.items c.insert.new.self.items i _ c.in_ok-insert.ensures.items (subst (λ l. i ≤ length l) is place.within) c.requires.rises c.requires.new
    (subst (λ l. (k : ℕ) → k < i → slice_index (feats_of l) k < c.args.feat.0) is place.before)
    (subst (λ l. i < length l → c.args.feat.0 ≤ slice_index (feats_of l) i) is place.found)
