-- What contracts see of answers.
use Rattle.std.specs.Prelude.{map}
use Rattle.derivation.specs.Views.{derivation_of}
use Rattle.tree_model.specs.Items.{Answer, LexicalDepth, ByUnaryChain, ByEdges, Readings, Trees}
use Rattle.grammar_rules.specs.declared.ItemAnswer.{ItemAnswer}
use Rattle.grammar_rules.specs.declared.ItemAnswer.TheVariants as answers

abbrev pub item_answer : ItemAnswer → Answer
item_answer (answers.LexicalDepth) = LexicalDepth
item_answer (answers.UnaryChain) = ByUnaryChain
item_answer (answers.Edges) = ByEdges
item_answer (answers.Readings) = Readings
item_answer (answers.Trees classes trees) = Trees classes (map derivation_of trees.items)
