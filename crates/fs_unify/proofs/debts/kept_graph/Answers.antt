use Rattle.std.proofs.Common.{subst}
use Rattle.fs_graph.specs.Inside.{graph_map}
use Rattle.fs_graph.specs.Orders.{IsClash}
use Rattle.fs_unify.specs.Inner.Hanging.{IsKeptPlan}
use Rattle.fs_unify.proofs.HangLemmas.{no_cycle}
use Rattle.fs_unify.proofs.debts.kept_graph.Goals as goal

pub returns-in-Ok : goal.returns-in-Ok
returns-in-Ok c =
    let rows : IsKeptPlan c.args.hanging.now.hang.items c.args.hanging.now.lead.items c.args.graph.now c.deref.result.now c.deref-2.result.now c.deref-3.result.now =
    rw (c.deref.ensures.value, c.deref-2.ensures.value, c.deref-3.ensures.value) c.in_ok-rows.ensures in
    record { types = c.deref.result.now; starts = c.deref-2.result.now; arcs = c.deref-3.result.now; plan = rows; order = c.in-Ok.ensures.ok }

pub unreachable-requires : goal.unreachable-requires
unreachable-requires c =
    let rows : IsKeptPlan c.args.hanging.now.hang.items c.args.hanging.now.lead.items c.args.graph.now c.deref.result.now c.deref-2.result.now c.deref-3.result.now =
    rw (c.deref.ensures.value, c.deref-2.ensures.value, c.deref-3.ensures.value) c.in_ok-rows.ensures in
    no_cycle c.args.graph.now c.laws.ensures c.args.hanging.now.hang.items c.args.hanging.now.lead.items c.deref.result.now c.deref-2.result.now c.deref-3.result.now rows c.in-Err-Cycle.field-0-0
    (subst (IsClash (graph_map c.deref.result.now c.deref-2.result.now c.deref-3.result.now)) c.in-Err-Cycle.field-0-is c.in-Err-Cycle.ensures.err)
