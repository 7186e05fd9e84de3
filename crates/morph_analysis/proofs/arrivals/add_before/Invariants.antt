use Rattle.std.proofs.Common.{map, take}
use Rattle.morph_analysis.specs.Inner.Adding.{AddsThose}
use Rattle.lexicon.specs.Words.{Has}
use Rattle.morph_analysis.specs.LatticeViews.{step_of}
use Rattle.morph_analysis.proofs.arrivals.add_before.Given as goal

abbrev pub invariant-loop-i : goal.invariant-loop-i
invariant-loop-i l = AddsThose (λ from. Has (record { from = from; to = l.node; word = l.word }) (map (λ s. step_of s.now) (take l.i l.sorted))) l.initial.out.items l.out.items
