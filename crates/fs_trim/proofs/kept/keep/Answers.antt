use Rattle.std.proofs.Common.{subst}
use Rattle.fs_graph.specs.GraphMap.{reader_of}
use Rattle.fs_graph.specs.Inside.{graph_map}
use Rattle.fs_graph.specs.Orders.{IsClash}
use Rattle.fs_trim.specs.Cutting.{cut_of}
use Rattle.fs_trim.specs.Inner.Rows.{IsCutPlan}
use Rattle.fs_trim.proofs.KeptLemmas.{kept_inside, kept_short, no_cycle, ordered_kept}
use Rattle.fs_trim.proofs.OweLemmas.{kept_owes}
use Rattle.fs_trim.proofs.kept.keep.Goals as goal

pub returns-in-Ok-clause-kept : goal.returns-in-Ok-clause-kept
returns-in-Ok-clause-kept c =
    let rows : IsCutPlan (cut_of c.args.cut.now) c.args.graph.now c.deref.result.now c.deref-2.result.now c.deref-3.result.now =
    rw (c.deref.ensures.value, c.deref-2.ensures.value, c.deref-3.ensures.value) c.in_ok-rows.ensures in
    ordered_kept (cut_of c.args.cut.now) c.args.graph.now c.laws.ensures c.deref.result.now c.deref-2.result.now c.deref-3.result.now rows c.in-Ok.kept c.in-Ok.ensures.ok

pub returns-in-Ok-clause-inside : goal.returns-in-Ok-clause-inside
returns-in-Ok-clause-inside c = λ types feats within.
    let rows : IsCutPlan (cut_of c.args.cut.now) c.args.graph.now c.deref.result.now c.deref-2.result.now c.deref-3.result.now =
    rw (c.deref.ensures.value, c.deref-2.ensures.value, c.deref-3.ensures.value) c.in_ok-rows.ensures in
    kept_inside (cut_of c.args.cut.now) c.args.graph.now c.in-Ok.kept types feats c.laws.ensures c.laws-in-Ok.ensures
    (ordered_kept (cut_of c.args.cut.now) c.args.graph.now c.laws.ensures c.deref.result.now c.deref-2.result.now c.deref-3.result.now rows c.in-Ok.kept c.in-Ok.ensures.ok)
    within

pub returns-in-Ok-clause-short : goal.returns-in-Ok-clause-short
returns-in-Ok-clause-short c = λ system short.
    let rows : IsCutPlan (cut_of c.args.cut.now) c.args.graph.now c.deref.result.now c.deref-2.result.now c.deref-3.result.now =
    rw (c.deref.ensures.value, c.deref-2.ensures.value, c.deref-3.ensures.value) c.in_ok-rows.ensures in
    kept_short (cut_of c.args.cut.now) c.args.graph.now c.in-Ok.kept system c.laws.ensures c.laws-in-Ok.ensures
    (ordered_kept (cut_of c.args.cut.now) c.args.graph.now c.laws.ensures c.deref.result.now c.deref-2.result.now c.deref-3.result.now rows c.in-Ok.kept c.in-Ok.ensures.ok)
    short

pub returns-in-Ok-clause-owes : goal.returns-in-Ok-clause-owes
returns-in-Ok-clause-owes c = λ s well.
    let rows : IsCutPlan (cut_of c.args.cut.now) c.args.graph.now c.deref.result.now c.deref-2.result.now c.deref-3.result.now =
    rw (c.deref.ensures.value, c.deref-2.ensures.value, c.deref-3.ensures.value) c.in_ok-rows.ensures in
    kept_owes s (cut_of c.args.cut.now) (reader_of c.args.graph.now) (reader_of c.in-Ok.kept)
    (ordered_kept (cut_of c.args.cut.now) c.args.graph.now c.laws.ensures c.deref.result.now c.deref-2.result.now c.deref-3.result.now rows c.in-Ok.kept c.in-Ok.ensures.ok)
    well

pub unreachable-requires : goal.unreachable-requires
unreachable-requires c =
    let rows : IsCutPlan (cut_of c.args.cut.now) c.args.graph.now c.deref.result.now c.deref-2.result.now c.deref-3.result.now =
    rw (c.deref.ensures.value, c.deref-2.ensures.value, c.deref-3.ensures.value) c.in_ok-rows.ensures in
    no_cycle (cut_of c.args.cut.now) c.args.graph.now c.laws.ensures c.deref.result.now c.deref-2.result.now c.deref-3.result.now rows c.in-Err-Cycle.field-0-0
    (subst (IsClash (graph_map c.deref.result.now c.deref-2.result.now c.deref-3.result.now)) c.in-Err-Cycle.field-0-is c.in-Err-Cycle.ensures.err)
