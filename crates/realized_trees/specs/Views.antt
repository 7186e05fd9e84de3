-- What a sentence of the program stands for.
use Rattle.std.specs.String.{string_bytes}
use Rattle.derivation.specs.Views.{derivation_of}
use Rattle.generate_model.specs.Sentences as model
use Rattle.realized_trees.specs.declared.sentence.Sentence.{Sentence}

abbrev pub sentence_seen : Sentence → model.Sentence
sentence_seen s = record { text = string_bytes s.text; tree = derivation_of s.tree }
