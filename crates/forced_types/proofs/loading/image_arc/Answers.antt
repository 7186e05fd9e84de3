use Rattle.std.proofs.Common.{slice_index_or, arith, subst}
use Rattle.fs_model.specs.Claims.{Has}
use Rattle.fs_graph.specs.declared.graph.GraphArc.{GraphArc}
use Rattle.fs_graph.specs.GraphMap.{GraphMap, arcs_at}
use Rattle.fs_closing.proofs.HasLemmas.{Has-at}
use Rattle.forced_types.proofs.loading.image_arc.Goals as goal

pub returns-clause-has : goal.returns-clause-has
returns-clause-has c =
    let d : GraphArc = record { feat = record { 0 = 0 }; to = record { 0 = 0 } } in
    let a = slice_index_or c.arcs-arcs.result.now c.args.k d in
    subst (λ (x : GraphMap). Has a (arcs_at x c.args.image.node)) c.graph_of.ensures.value
    (subst (Has a) c.arcs-arcs.ensures (Has-at c.arcs-arcs.result.now c.args.k d (omega (arith, c.if-k-arcs.false))))

pub returns-clause-feat : goal.returns-clause-feat
returns-clause-feat c =
    let d : GraphArc = record { feat = record { 0 = 0 }; to = record { 0 = 0 } } in
    let a = slice_index_or c.arcs-arcs.result.now c.args.k d in
    c.graph_of.ensures.inside.feats_in c.args.image.node a c.requires.node
    (subst (λ (x : GraphMap). Has a (arcs_at x c.args.image.node)) c.graph_of.ensures.value
    (subst (Has a) c.arcs-arcs.ensures (Has-at c.arcs-arcs.result.now c.args.k d (omega (arith, c.if-k-arcs.false)))))
