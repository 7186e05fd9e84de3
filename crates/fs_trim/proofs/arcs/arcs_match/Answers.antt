use Rattle.std.proofs.Common.{sym, arith}
use Rattle.fs_trim.proofs.MeetLemmas.{meets_in}
use Rattle.fs_trim.proofs.MarkLemmas.{arcs_begin, arcs_all}
use Rattle.fs_trim.proofs.ArcLemmas.{target_in, missing_arc, other_node, next_arc}
use Rattle.fs_trim.proofs.arcs.arcs_match.Goals as goal

pub arcs-others-requires : goal.arcs-others-requires
arcs-others-requires c =
    meets_in c.args.general.now c.args.special.now c.requires.general_graph c.requires.special_graph c.args.n.0 _
    (c.requires.seen.meets c.args.n.0 c.requires.n_in c.requires.met)

pub loop-arc-init : goal.loop-arc-init
loop-arc-init c = arcs_begin c.args.general.now c.args.special.now _ _ c.args.marks.now c.requires.seen

pub returns-in_default-clause-no : goal.returns-in_default-clause-no
returns-in_default-clause-no c =
    λ e. missing_arc c.args.general.now c.args.special.now c.requires.general_graph c.requires.special_graph c.args.n.0 _ c.requires.n_in
    (c.requires.seen.meets c.args.n.0 c.requires.n_in c.requires.met) c.arcs-arcs.result.now c.arcs-others.result.now c.arcs-arcs.ensures c.arcs-others.ensures
    c.loop-arc.arc-index c.loop-arc-test.true (sym c.in_default.ensures)

pub stands_for-requires : goal.stands_for-requires
stands_for-requires c =
    let t = target_in c.args.general.now c.args.special.now c.requires.general_graph c.requires.special_graph c.args.n.0 _ c.requires.n_in
    (c.requires.seen.meets c.args.n.0 c.requires.n_in c.requires.met) c.arcs-arcs.result.now c.arcs-others.result.now c.arcs-arcs.ensures c.arcs-others.ensures
    c.loop-arc.arc-index c.loop-arc-test.true in
    let s = c.loop-arc.invariant.seen.enough in
    omega arith

pub returns-then-not-stands_for-clause-no : goal.returns-then-not-stands_for-clause-no
returns-then-not-stands_for-clause-no c =
    λ e.
    let no = c.stands_for.ensures.no c.if-not-stands_for.true in
    other_node c.args.general.now c.args.special.now c.requires.general_graph c.requires.special_graph c.args.n.0 _ c.requires.n_in
    (c.requires.seen.meets c.args.n.0 c.requires.n_in c.requires.met) c.arcs-arcs.result.now c.arcs-others.result.now c.arcs-arcs.ensures c.arcs-others.ensures
    c.loop-arc.arc-index c.loop-arc-test.true c.loop-arc.marks c.in-Some.to.0 c.loop-arc.invariant.seen (sym c.in-Some.ensures) no.0 no.1

pub loop-arc-preserved : goal.loop-arc-preserved
loop-arc-preserved c =
    next_arc c.args.general.now c.args.special.now c.requires.general_graph c.requires.special_graph c.args.n.0 _ c.requires.n_in
    (c.requires.seen.meets c.args.n.0 c.requires.n_in c.requires.met) c.arcs-arcs.result.now c.arcs-others.result.now c.arcs-arcs.ensures c.arcs-others.ensures
    c.loop-arc.arc-index c.loop-arc-test.true c.args.marks.now c.loop-arc.marks c.stands_for.new.marks c.loop-arc.place c.seek-place.result c.in-Some.to.0
    c.loop-arc.invariant c.seek-place.ensures.within c.seek-place.ensures.before (sym c.in-Some.ensures) (c.stands_for.ensures.free c.if-not-stands_for.false)
    (c.stands_for.ensures.yes c.if-not-stands_for.false)

pub returns-clause-kept : goal.returns-clause-kept
returns-clause-kept c =
    λ e. arcs_all c.args.general.now c.args.special.now c.arcs-arcs.result.now c.arcs-others.result.now c.args.marks.now c.loop-arc.marks c.args.n.0
    c.loop-arc.arc-index c.loop-arc.place c.arcs-arcs.ensures c.arcs-others.ensures c.requires.met c.loop-arc-test.false c.loop-arc.invariant
