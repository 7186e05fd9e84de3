use Rattle.std.proofs.Common.{arith, ◌≡◌, length, map, subst, ◌<◌}
use Rattle.morph_analysis.specs.Inner.Adding.{AddsThose, OfNodes}
use Rattle.morph_analysis.specs.Views.{made_of}
use Rattle.morph_analysis.specs.LatticeViews.{step_of}
use Rattle.morph_analysis.proofs.StepLemmas.{nodes_none, nodes_more}
use Rattle.morph_analysis.specs.Inner.Adding.{OfNode}
use Rattle.morph_analysis.proofs.EnoughLemmas.{at_exit, nodes_are}
use Rattle.morph_analysis.proofs.analysis.add_step.Goals as goal

pub loop-node-init : goal.loop-node-init
loop-node-init g c = nodes_none c.args.search.now.lexicon.now c.args.graph.now (g.M.Maker.makes c.args.search.now.maker.now) c.args.search.now.depth c.args.search.now.arrivals.now (step_of c.args.step.now) (map (made_of (g.M.Maker.value c.args.search.now.maker.now)) c.args.out.now.items)

pub add_node-requires : goal.add_node-requires
add_node-requires g c = record { within = c.requires; there = omega (arith, c.len-node-end.ensures) }

pub loop-node-preserved : goal.loop-node-preserved
loop-node-preserved g c =
    nodes_more c.args.search.now.lexicon.now c.args.graph.now (g.M.Maker.makes c.args.search.now.maker.now) c.args.search.now.depth c.args.search.now.arrivals.now (step_of c.args.step.now) c.loop-node.node (map (made_of (g.M.Maker.value c.args.search.now.maker.now)) c.args.out.now.items) (map (made_of (g.M.Maker.value c.args.search.now.maker.now)) c.loop-node.out.items) (map (made_of (g.M.Maker.value c.args.search.now.maker.now)) c.add_node.new.out.items)
    c.loop-node.invariant c.in_ok-add_node.ensures.all

pub returns-clause-all : goal.returns-clause-all
returns-clause-all g c =
    let end : c.loop-node.node ≡ length c.args.graph.now = omega (arith, c.len-node-end.ensures) in
    subst (λ n. AddsThose (OfNodes c.args.search.now.lexicon.now c.args.graph.now (g.M.Maker.makes c.args.search.now.maker.now) c.args.search.now.depth c.args.search.now.arrivals.now (step_of c.args.step.now) n) (map (made_of (g.M.Maker.value c.args.search.now.maker.now)) c.args.out.now.items) (map (made_of (g.M.Maker.value c.args.search.now.maker.now)) c.loop-node.out.items)) end c.loop-node.invariant

pub returns-in_err-add_node-clause-halt : goal.returns-in_err-add_node-clause-halt
returns-in_err-add_node-clause-halt g c =
    let A = g.M.Maker.makes c.args.search.now.maker.now in
    let within : c.loop-node.node < length c.args.graph.now = omega (arith, c.len-node-end.ensures) in
    at_exit (g.M.Maker.enough c.args.search.now.maker.now) (OfNode c.args.search.now.lexicon.now c.args.graph.now A c.args.search.now.depth c.args.search.now.arrivals.now (step_of c.args.step.now) c.loop-node.node) (OfNodes c.args.search.now.lexicon.now c.args.graph.now A c.args.search.now.depth c.args.search.now.arrivals.now (step_of c.args.step.now) (length c.args.graph.now)) c.from_residual.result
    c.in_err-add_node.field-0.0 c.from_residual.ensures.1 (nodes_are c.args.search.now.lexicon.now c.args.graph.now A c.args.search.now.depth c.args.search.now.arrivals.now (step_of c.args.step.now) (length c.args.graph.now) c.loop-node.node within) c.in_err-add_node.ensures.halt
