use Rattle.std.proofs.Common.{◌≡◌, false, true, take, slice_index_or}
use Rattle.std.proofs.lemmas.List.{take_more}
use Rattle.fs_closing.proofs.HasLemmas.{Has-at, each_push}
use Rattle.fs_closing.proofs.outline.are_marked.Goals as goal

pub bounds-marks-j : goal.bounds-marks-j
bounds-marks-j c = c.requires (slice_index_or c.args.places.now c.loop-j.j-index 0) (Has-at c.args.places.now c.loop-j.j-index 0 c.loop-j-test.true)

pub loop-j-preserved : goal.loop-j-preserved
loop-j-preserved c =
    each_push (λ k. slice_index_or c.args.marks.now k false ≡ true) (take c.loop-j.j-index c.args.places.now) _ (slice_index_or c.args.places.now c.loop-j.j-index 0)
    (take_more c.args.places.now c.loop-j.j-index 0 c.loop-j-test.true) c.loop-j.invariant c.if-not-marks-j.false
