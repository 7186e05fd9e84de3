-- What contracts see of answers.
use Rattle.std.specs.Prelude.{map}
use Rattle.generate_model.specs.Sentences.{GenAnswer, LexicalDepth, ByUnaryChain, ByEdges, Readings, Sentences}
use Rattle.realized_trees.specs.Views.{sentence_seen}
use Rattle.mrs_generate.specs.declared.GenAnswer.{GenAnswer as Answer}
use Rattle.mrs_generate.specs.declared.GenAnswer.TheVariants as answers

abbrev pub answer_seen : Answer → GenAnswer
answer_seen (answers.LexicalDepth) = LexicalDepth
answer_seen (answers.UnaryChain) = ByUnaryChain
answer_seen (answers.Edges) = ByEdges
answer_seen (answers.Readings) = Readings
answer_seen (answers.Sentences classes sentences) = Sentences classes (map sentence_seen sentences.items)
