use Rattle.std.proofs.Common.{map, take}
use Rattle.morph_analysis.specs.Inner.Adding.{AddsThose, OfSome, OfStep}
use Rattle.morph_analysis.specs.LatticeViews.{step_of}
use Rattle.morph_analysis.specs.Views.{made_of}
use Rattle.morph_analysis.specs.Spelled.{IsSpelled, node_at}
use Rattle.morph_analysis.proofs.analysis.add_steps.Given as goal

abbrev pub invariant-loop-i : goal.invariant-loop-i
invariant-loop-i g l = record {
  graph : IsSpelled l.search.spelling.now (node_at l.graph 0).word l.search.depth l.graph;
  chains : AddsThose (OfSome (OfStep l.search.lexicon.now l.search.spelling.now (g.M.Maker.makes l.search.maker.now) l.search.depth l.search.arrivals.now) (map (λ s. step_of s.now) (take l.i l.sorted))) (map (made_of (g.M.Maker.value l.search.maker.now)) l.initial.out.items) (map (made_of (g.M.Maker.value l.search.maker.now)) l.out.items);
}
