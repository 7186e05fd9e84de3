use Rattle.std.proofs.Common.{subst}
use Rattle.fs_model.specs.Sources.{IsSameStructure}
use Rattle.fs_graph.specs.GraphMap.{reader_of}
use Rattle.fs_closing.specs.Rules.{system_of}
use Rattle.grammar_shapes.specs.Ruled.{paths_in}
use Rattle.grammar_shapes.specs.Shaped.{graph_of}
use Rattle.grammar_shapes.proofs.MarkLemmas.{same_view}
use Rattle.grammar_shapes.proofs.marks.GrammarShapesMarked.same.Goals as goal

pub returns : goal.returns
returns c = λ yes.
    let g = c.args.self.now.rules.grammar in
    same_view (system_of g) c.args.self.now.order (paths_in g) (reader_of (graph_of c.args.shape.now)) (reader_of (graph_of c.args.other.now))
    (subst (λ y. IsSameStructure (reader_of (graph_of c.args.shape.now)) (reader_of y.graph)) c.deref-2.ensures
    (subst (λ x. IsSameStructure (reader_of x.graph) (reader_of c.deref-2.result.now.graph)) c.deref.ensures
    (c.same_place.ensures yes)))
