use Rattle.std.proofs.Common.{map, take}
use Rattle.morph_analysis.specs.Inner.Growing.{Adds, HasEdge}
use Rattle.morph_analysis.specs.Views.{node_of}
use Rattle.spelling_rules.specs.Views.{stem_of}
use Rattle.spelling_rules.specs.Forms.{StemTree}
use Rattle.lexicon.specs.Words.{Has}
use Rattle.morph_analysis.proofs.nodes.add_stems.Given as goal

abbrev pub invariant-loop-stem : goal.invariant-loop-stem
invariant-loop-stem l = record {
  adds : Adds l.spelling l.distance (map node_of l.initial.nodes.entries) (map node_of l.nodes.entries);
  edges : (x : StemTree) → Has x (map stem_of (take l.stem-index l.stem-items)) → HasEdge (map node_of l.nodes.entries) x.stem x.rule l.place;
}
