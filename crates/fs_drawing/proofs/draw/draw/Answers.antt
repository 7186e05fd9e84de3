use Rattle.std.proofs.Common.{slice_index, subst, arith}
use Rattle.fs_graph.specs.Inside.{graph_map}
use Rattle.fs_graph.specs.Orders.{IsClash}
use Rattle.fs_closing.specs.Keeps.{deep_of}
use Rattle.fs_drawing.specs.Drawing.{leaves_of}
use Rattle.fs_drawing.proofs.DrawLemmas.{answer_cycle, answer_longest, filled_plan}
use Rattle.fs_drawing.proofs.draw.draw.Goals as goal

pub order_in-requires : goal.order_in-requires
order_in-requires c = rw (c.deref.ensures.value, c.deref-2.ensures.value, c.deref-3.ensures.value) c.in_ok-lay_out.ensures.0

pub returns-then-picture-limit : goal.returns-then-picture-limit
returns-then-picture-limit c =
    let p = c.lay_out.new.picture in
    let laid = c.in_ok-lay_out.ensures in
    let order = rw (c.deref.ensures.value, c.deref-2.ensures.value, c.deref-3.ensures.value) at c.in-Ok.ensures.ok in
    answer_longest (deep_of c.args.nodes.now) c.args.limit (leaves_of c.args.off) (slice_index p.met.nodes.items) (graph_map p.types.items p.starts.items p.arcs.items) c.order_in.new.order.longest
    (filled_plan p.types.items p.starts.items p.arcs.items laid.0) laid.1 order.longest (omega (arith, c.if-picture-limit.true))

pub returns-else-picture-limit : goal.returns-else-picture-limit
returns-else-picture-limit c =
    let laid = c.in_ok-lay_out.ensures in
    record {
      plan = laid.0;
      shows = laid.1;
      order = rw (c.deref.ensures.value, c.deref-2.ensures.value, c.deref-3.ensures.value) at c.in-Ok.ensures.ok;
      short = omega (arith, c.if-picture-limit.false);
    }

pub returns-in-Err-Cycle : goal.returns-in-Err-Cycle
returns-in-Err-Cycle c =
    let p = c.lay_out.new.picture in
    let laid = c.in_ok-lay_out.ensures in
    let err = subst (IsClash (graph_map c.deref.result.now c.deref-2.result.now c.deref-3.result.now)) c.in-Err-Cycle.field-0-is c.in-Err-Cycle.ensures.err in
    let clash = rw (c.deref.ensures.value, c.deref-2.ensures.value, c.deref-3.ensures.value) at err in
    answer_cycle (deep_of c.args.nodes.now) c.args.limit (leaves_of c.args.off) (slice_index p.met.nodes.items) (graph_map p.types.items p.starts.items p.arcs.items) c.in-Err-Cycle.field-0-0.0
    (filled_plan p.types.items p.starts.items p.arcs.items laid.0) laid.1 clash.0 clash.1
