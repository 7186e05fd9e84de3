use Rattle.std.proofs.Common.{◌≡◌}
use Rattle.rule_trees.specs.Mothers.{view_in}
use Rattle.mrs_model.specs.Meanings.{Meaning}
use Rattle.mrs_places.specs.Looking.{Sought}
use Rattle.mrs_places.specs.Paths.{paths_of}
use Rattle.mrs_extract.specs.Extraction.{Extracts}
use Rattle.mrs_lines.specs.Lines.{sought_line}
use Rattle.mrs_lines.specs.Remembered.{IsLineIn}
use Rattle.mrs_lines.proofs.Telling.{of_answer, if_ok}
use Rattle.mrs_lines.proofs.line.line_of_full.Goals as goal

pub line_of_graph-requires-clause-of : goal.line_of_graph-requires-clause-of
line_of_graph-requires-clause-of c = of_answer c.args.signs.now.book.system (paths_of c.args.paths.now) c.in_ok-graph.graph c.requires.feats c.in_ok-graph.ensures.within

pub returns : goal.returns
returns c =
    let t = c.args.signs.now in
    let paths = paths_of c.args.paths.now in
    let graph = c.in_ok-graph.graph in
    let full = view_in t c.args.full.now.graph in
    if_ok c.line_of_graph.result (λ line. (outcome : Sought Meaning) × Extracts graph t.book.system.types paths outcome × (line.items ≡ sought_line outcome))
    (λ line. IsLineIn (record { signs = t; paths = paths }) full line.items)
    (λ line h. record { graph = graph; meant = c.in_ok-graph.ensures.meant; outcome = h.0; extracts = h.1; line_is = h.2 })
    c.line_of_graph.ensures
