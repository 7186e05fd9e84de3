use Rattle.std.proofs.Common.{◌++◌, None, Some, replicate, set, refl, ◌∙◌, ap}
use Rattle.fs_graph.specs.Facts.{path_of}
use Rattle.fs_graph.proofs.LineLemmas.{block, listed_begins}
use Rattle.fs_graph.proofs.lines.begin.Goals as goal

pub returns : goal.returns
returns c =
    listed_begins c.args.graph.now c.nodes-nodes.ensures.graph _ _ _ _ _ refl c.in_ok-lines.ensures.items
    (ap (λ l. set l 0 (Some 0)) (c.in_ok-firsts.ensures ∙ ap (λ n. replicate n None) c.nodes-nodes.ensures.count))
    (c.in_ok-push_arcs.ensures ∙ ap (λ l. l ++ block (record { 0 = 0 }) c.arcs.result.now) c.new-waiting.ensures.items ∙ ap (block (record { 0 = 0 })) c.arcs.ensures)
    (ap path_of c.new.ensures.items) c.ty.ensures refl
