use Rattle.std.proofs.Common.{length, sym, subst}
use Rattle.std.proofs.lemmas.List.{get_or-map}
use Rattle.type_hierarchy.specs.Table.{count_of}
use Rattle.fs_graph.specs.GraphMap.{IsGraph}
use Rattle.fs_closing.specs.NodeSteps.{IsGraphIn}
use Rattle.fs_closing.proofs.HasLemmas.{Has-at}
use Rattle.forced_types.specs.declared.placed.PlacedGraph.{PlacedGraph}
use Rattle.forced_types.specs.Inner.Sound.{no_graph}
use Rattle.forced_types.proofs.loading.graph_of.Goals as goal

pub returns : goal.returns
returns c =
    let g = c.args.given in
    let x = c.index-given-i.result in
    let is = get_or-map (λ (p : PlacedGraph). p.graph.now) g.parts.now c.args.i x no_graph c.requires.part in
    record {
      value = sym is;
      inside = subst (IsGraphIn (count_of g.system.now.types) (length g.system.now.introducers)) (sym is) (c.requires.within _ (Has-at g.parts.now c.args.i x c.requires.part)).graph;
      graph = subst IsGraph (sym is) c.laws.ensures;
    }
