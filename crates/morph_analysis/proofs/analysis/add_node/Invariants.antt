use Rattle.std.proofs.Common.{map, take}
use Rattle.morph_analysis.specs.Inner.Adding.{AddsThose, OfSome, OfWords}
use Rattle.morph_analysis.specs.Views.{made_of}
use Rattle.morph_analysis.specs.LatticeViews.{step_of}
use Rattle.lexicon.specs.Groups.{group_of}
use Rattle.morph_analysis.proofs.analysis.add_node.Given as goal

abbrev pub invariant-loop-group : goal.invariant-loop-group
invariant-loop-group g l =
    AddsThose (OfSome (OfWords l.graph (g.M.Maker.makes l.search.maker.now) l.search.depth l.search.arrivals.now (step_of l.step) l.node) (map group_of (take l.group-index l.groups))) (map (made_of (g.M.Maker.value l.search.maker.now)) l.initial.out.items) (map (made_of (g.M.Maker.value l.search.maker.now)) l.out.items)
