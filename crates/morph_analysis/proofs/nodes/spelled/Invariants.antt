use Rattle.std.proofs.Common.{map}
use Rattle.morph_analysis.specs.Inner.Growing.{IsPartSpelled}
use Rattle.morph_analysis.specs.Views.{node_of}
use Rattle.morph_analysis.proofs.nodes.spelled.Given as goal

abbrev pub invariant-loop-round : goal.invariant-loop-round
invariant-loop-round l = IsPartSpelled l.spelling l.word l.round l.begin (map node_of l.nodes.entries)
