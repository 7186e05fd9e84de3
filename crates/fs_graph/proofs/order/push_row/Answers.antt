use Rattle.std.proofs.Common.{◌<◌, ◌++◌, length, map, sym, ◌∙◌, ap, subst}
use Rattle.std.proofs.lemmas.List.{append-nil, get_or-map, take_all}
use Rattle.fs_graph.specs.Inner.Renumbering.{renumber}
use Rattle.fs_graph.proofs.OrderLemmas.{push_more}
use Rattle.fs_graph.proofs.order.push_row.Goals as goal

pub loop-arc-init : goal.loop-arc-init
loop-arc-init c = sym (append-nil c.args.arcs.now.items)

pub bounds-numbers-arc : goal.bounds-numbers-arc
bounds-numbers-arc c =
    subst (λ z. z < length c.args.numbers.now) (get_or-map (λ a. a.to.0) c.args.row.now c.loop-arc.arc-index _ 0 c.loop-arc-test.true)
    (c.requires c.loop-arc.arc-index c.loop-arc-test.true)

pub loop-arc-preserved : goal.loop-arc-preserved
loop-arc-preserved c =
    push_more c.args.numbers.now c.args.row.now c.args.arcs.now.items c.loop-arc.arcs.items _ c.loop-arc.arc-index (record { feat = record { 0 = 0 }; to = record { 0 = 0 } })
    c.loop-arc-test.true c.loop-arc.invariant c.in_ok-push.ensures.items

pub returns : goal.returns
returns c =
    c.loop-arc.invariant
    ∙ ap (λ l. c.args.arcs.now.items ++ map (renumber c.args.numbers.now) l) (take_all c.loop-arc.arc-index c.args.row.now c.loop-arc-test.false)
