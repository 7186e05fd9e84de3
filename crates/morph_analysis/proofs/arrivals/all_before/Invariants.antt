use Rattle.std.proofs.Common.{[], map, take}
use Rattle.morph_analysis.specs.Inner.Adding.{AddsThose, OfSome}
use Rattle.lexicon.specs.Words.{Has}
use Rattle.morph_analysis.specs.LatticeViews.{step_of}
use Rattle.morph_analysis.proofs.arrivals.all_before.Given as goal

abbrev pub invariant-loop-node : goal.invariant-loop-node
invariant-loop-node l = AddsThose (OfSome (λ to from. Has (record { from = from; to = to; word = l.word }) (map (λ s. step_of s.now) l.sorted)) (take l.node-index l.nodes)) [] l.out.items
