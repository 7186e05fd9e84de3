use Rattle.std.proofs.Common.{◌≡◌, min, sym, ◌∙◌, arith}
use Rattle.std.specs.Cmp.Lexicographic.{slice_cmp}
use Rattle.line_charts.specs.Keys.{compare_arcs}
use Rattle.line_charts.proofs.KeyLemmas.{compared_end}
use Rattle.line_charts.proofs.keys.compare_rows.Goals as goal

pub returns : goal.returns
returns c =
    let g = c.args.graph.now in
    let h = c.args.other.now in
    let end : c.loop-n.n ≡ min c.nodes-nodes.result c.nodes-others.result = omega (arith, c.min-n-end.ensures) in
    c.cmp.ensures
    ∙ compared_end (slice_cmp compare_arcs) g.arcs h.arcs c.loop-n.n c.nodes-nodes.result c.nodes-others.result (c.nodes-nodes.ensures.count ∙ sym c.nodes-nodes.ensures.graph.even)
    (c.nodes-others.ensures.count ∙ sym c.nodes-others.ensures.graph.even) end
    ∙ sym c.loop-n.invariant
