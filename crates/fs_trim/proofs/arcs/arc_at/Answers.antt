use Rattle.std.proofs.Common.{◌≡◌, ◌<◌, Some, length, slice_index, sym, ◌∙◌, ap, arith}
use Rattle.fs_graph.specs.GraphMap.{arc_to}
use Rattle.fs_graph.specs.Visits.{feats_of}
use Rattle.fs_graph.proofs.RowLemmas.{arc_there}
use Rattle.fs_trim.proofs.MarkLemmas.{none_at}
use Rattle.fs_trim.proofs.ArcLemmas.{feat_at, target_at}
use Rattle.fs_trim.proofs.arcs.arc_at.Goals as goal

pub returns-then-place-arcs : goal.returns-then-place-arcs
returns-then-place-arcs c =
    sym (none_at c.args.arcs.now c.args.place c.args.feat.0 c.requires.rises c.requires.before (λ l. let e = c.if-place-arcs.true in absurd (omega arith)))

pub returns-then-arc-feat : goal.returns-then-arc-feat
returns-then-arc-feat c =
    let low : c.args.place < length c.args.arcs.now = (let e = c.if-place-arcs.false in let w = c.requires.within in omega arith) in
    let e = feat_at c.args.arcs.now c.args.place low in
    let f = c.requires.found low in
    let t = c.if-arc-feat.true in
    sym (none_at c.args.arcs.now c.args.place c.args.feat.0 c.requires.rises c.requires.before (λ l. omega arith))

pub returns : goal.returns
returns c =
    let low : c.args.place < length c.args.arcs.now = (let e = c.if-place-arcs.false in let w = c.requires.within in omega arith) in
    let e = feat_at c.args.arcs.now c.args.place low in
    let t = c.if-arc-feat.false in
    let same : slice_index (feats_of c.args.arcs.now) c.args.place ≡ c.args.feat.0 = omega arith in
    ap Some (sym (target_at c.args.arcs.now c.args.place low)) ∙ sym (arc_there c.args.arcs.now c.args.place c.requires.rises low)
    ∙ ap (arc_to c.args.arcs.now) same
