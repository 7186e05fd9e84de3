use Rattle.std.proofs.Common.{◌++◌, length, map, take, slice_index_or, sym, ◌∙◌, ap, subst, arith}
use Rattle.std.specs.Result.{IfOk, IfErr}
use Rattle.std.specs.List.{range_with_len, flat_map}
use Rattle.fs_graph.specs.Inner.Renumbering.{starts_of}
use Rattle.fs_graph.specs.Orders.{IsOrdering, IsClash}
use Rattle.fs_graph.proofs.FlatLemmas.{flat-more, starts-more}
use Rattle.fs_graph.proofs.DrawLemmas.{items, drawn_plan}
use Rattle.fs_graph.proofs.builder.Builder.finish.Goals as goal

pub loop-row-init : goal.loop-row-init
loop-row-init c = record { starts = c.in_ok-starts.ensures.items; arcs = c.new-arcs.ensures.items }

pub loop-row-preserved : goal.loop-row-preserved
loop-row-preserved c =
    record {
      starts = starts-more items c.deref-row-items.result.now c.loop-row.row-index c.in_ok-place.field-0 c.loop-row.starts.items c.push.new.self.items c.loop-row.arcs.items
          c.loop-row.invariant.starts c.loop-row.invariant.arcs c.in_ok-push.ensures.items c.in_ok-place.ensures;
      arcs =
          c.in_ok-extend_from_slice.ensures.items ∙ ap (λ l. c.loop-row.arcs.items ++ l) (c.deref.ensures.value ∙ ap items c.row-item.is)
          ∙ ap (λ l. l ++ items (slice_index_or c.deref-row-items.result.now c.loop-row.row-index c.row-item.result)) c.loop-row.invariant.arcs
          ∙ sym (flat-more items c.deref-row-items.result.now c.loop-row.row-index c.row-item.result c.loop-row-test.true);
    }

pub ordered-requires : goal.ordered-requires
ordered-requires c =
    let v = c.deref-row-items.ensures.value in
    let size = ap length v in
    let low = c.loop-row-test.false in
    let high = c.loop-row.auto in
    (drawn_plan c.self.inside.types.items c.deref-2.result.now c.self.inside.rows.items c.self.invariant c.loop-row.starts.items c.deref-3.result.now c.loop-row.arcs.items
    c.deref-4.result.now c.in_ok-place-2.field-0 c.loop-row.row-index (omega arith)
    (c.loop-row.invariant.starts ∙ ap (λ l. map (starts_of items l) (range_with_len 0 c.loop-row.row-index)) v)
    (c.loop-row.invariant.arcs ∙ ap (λ l. flat_map items (take c.loop-row.row-index l)) v) c.deref-2.ensures.value (c.deref-3.ensures.value ∙ c.in_ok-push-2.ensures.items)
    c.in_ok-place-2.ensures c.deref-4.ensures.value).0

pub returns-clause-ok : goal.returns-clause-ok
returns-clause-ok c =
    let v = c.deref-row-items.ensures.value in
    let size = ap length v in
    let low = c.loop-row-test.false in
    let high = c.loop-row.auto in
    subst (λ g. IfOk c.ordered.result (IsOrdering g)) ((drawn_plan c.self.inside.types.items c.deref-2.result.now c.self.inside.rows.items c.self.invariant c.loop-row.starts.items c.deref-3.result.now c.loop-row.arcs.items
    c.deref-4.result.now c.in_ok-place-2.field-0 c.loop-row.row-index (omega arith)
    (c.loop-row.invariant.starts ∙ ap (λ l. map (starts_of items l) (range_with_len 0 c.loop-row.row-index)) v)
    (c.loop-row.invariant.arcs ∙ ap (λ l. flat_map items (take c.loop-row.row-index l)) v) c.deref-2.ensures.value (c.deref-3.ensures.value ∙ c.in_ok-push-2.ensures.items)
    c.in_ok-place-2.ensures c.deref-4.ensures.value).1 ∙ c.self.view_is) c.ordered.ensures.ok

pub returns-clause-err : goal.returns-clause-err
returns-clause-err c =
    let v = c.deref-row-items.ensures.value in
    let size = ap length v in
    let low = c.loop-row-test.false in
    let high = c.loop-row.auto in
    subst (λ g. IfErr c.ordered.result (IsClash g)) ((drawn_plan c.self.inside.types.items c.deref-2.result.now c.self.inside.rows.items c.self.invariant c.loop-row.starts.items c.deref-3.result.now c.loop-row.arcs.items
    c.deref-4.result.now c.in_ok-place-2.field-0 c.loop-row.row-index (omega arith)
    (c.loop-row.invariant.starts ∙ ap (λ l. map (starts_of items l) (range_with_len 0 c.loop-row.row-index)) v)
    (c.loop-row.invariant.arcs ∙ ap (λ l. flat_map items (take c.loop-row.row-index l)) v) c.deref-2.ensures.value (c.deref-3.ensures.value ∙ c.in_ok-push-2.ensures.items)
    c.in_ok-place-2.ensures c.deref-4.ensures.value).1 ∙ c.self.view_is) c.ordered.ensures.err
