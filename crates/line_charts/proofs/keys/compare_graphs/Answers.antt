use Rattle.std.proofs.Common.{◌∙◌}
use Rattle.line_charts.proofs.KeyLemmas.{types_compared, graphs_by_arcs, graphs_by_types}
use Rattle.line_charts.proofs.keys.compare_graphs.Goals as goal

pub returns-in-Equal : goal.returns-in-Equal
returns-in-Equal c =
    let g = c.args.graph.now in
    let h = c.args.other.now in
    graphs_by_arcs g h c.compare_rows.result (c.in-Equal.ensures ∙ types_compared c.types.result.now c.types-2.result.now g.types h.types c.types.ensures c.types-2.ensures) c.compare_rows.ensures

pub returns-in_default : goal.returns-in_default
returns-in_default c =
    let g = c.args.graph.now in
    let h = c.args.other.now in
    graphs_by_types g h c.compare_types.result (c.compare_types.ensures ∙ types_compared c.types.result.now c.types-2.result.now g.types h.types c.types.ensures c.types-2.ensures) c.in_default.not-Equal
