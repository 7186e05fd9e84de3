use Rattle.std.proofs.Common.{◌∙◌, ap, sym, subst, ◌↔◌, IsTrue}
use Rattle.type_hierarchy.specs.Table.{is_below}
use Rattle.fs_model.specs.Sources.{Subsumes}
use Rattle.fs_graph.specs.GraphMap.{reader_of}
use Rattle.fs_closing.specs.Rules.{system_of}
use Rattle.grammar_shapes.specs.Shaped.{graph_of}
use Rattle.grammar_shapes.proofs.CallLemmas.{subsumed}
use Rattle.grammar_shapes.proofs.shapes.GrammarShapes.subsumes.Goals as goal

pub returns-in-Ok : goal.returns-in-Ok
returns-in-Ok c =
    let g = c.args.self.now.rules.grammar in
    let types = c.types-types.ensures ∙ ap (λ g. g.types) c.system.ensures in
    subsumed g c.args.self.now.rules.rules c.args.self.now.rules.daughters c.args.self.now.rules.restrictors c.args.general.now c.args.special.now c.subsumes.result c.requires.general.short
    (subst (λ y. IsTrue c.subsumes.result ↔ Subsumes (system_of g) (reader_of (graph_of c.args.general.now)) (reader_of y.graph)) c.deref-in-Ok-2.ensures
    (subst (λ x. IsTrue c.subsumes.result ↔ Subsumes (system_of g) (reader_of x.graph) (reader_of c.deref-in-Ok-2.result.now.graph)) c.deref-in-Ok.ensures
    (c.subsumes.ensures.exact (system_of g) (λ t u. ap (λ x. is_below x t u) (sym types)))))
