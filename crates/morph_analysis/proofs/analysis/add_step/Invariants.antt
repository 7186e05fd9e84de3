use Rattle.std.proofs.Common.{map}
use Rattle.morph_analysis.specs.Inner.Adding.{AddsThose, OfNodes}
use Rattle.morph_analysis.specs.Views.{made_of}
use Rattle.morph_analysis.specs.LatticeViews.{step_of}
use Rattle.morph_analysis.proofs.analysis.add_step.Given as goal

abbrev pub invariant-loop-node : goal.invariant-loop-node
invariant-loop-node g l = AddsThose (OfNodes l.search.lexicon.now l.graph (g.M.Maker.makes l.search.maker.now) l.search.depth l.search.arrivals.now (step_of l.step) l.node) (map (made_of (g.M.Maker.value l.search.maker.now)) l.initial.out.items) (map (made_of (g.M.Maker.value l.search.maker.now)) l.out.items)
