-- What MRSs are answered by, and their answers by it.
use Rattle.std.specs.Prelude.{ℕ, ◌≡◌, length, map}
use Rattle.chart_core.specs.declared.Limits as declared
use Rattle.tree_model.specs.Lexical.{Words}
use Rattle.mrs_model.specs.Meanings.{Meaning}
use Rattle.mrs_places.specs.Paths.{feature_of, paths_of}
use Rattle.mrs_extract.specs.Asked.{ArePaths}
use Rattle.grammar_rules.specs.Lines.{AreShapesOf}
use Rattle.generate_model.specs.Contributions.{Input}
use Rattle.generate_model.specs.Sentences.{GenAnswer}
use Rattle.generated_leaves.specs.Given.{input_of}
use Rattle.mrs_generate.specs.Answers.{words_by, IsAnswerTo}
use Rattle.mrs_generate.specs.Contributors.{AreContributors}
use Rattle.mrs_generate.specs.declared.grammar.GenGrammar.{GenGrammar}

-- shapes and contributors are made of the signs, these for lexical trees of so many rules; and the paths of MRSs fit the grammar
pub record IsGenGrammar (most : ℕ) (g : GenGrammar) : Type 0 where
  pub shapes : AreShapesOf g.signs.now g.shapes.now
  pub contributors : AreContributors g.signs.now g.lexicon.now g.spelling.now (paths_of g.paths.now) (map feature_of g.c_cont.now) most g.contributors.now
  pub paths : ArePaths g.signs.now.book.system.types (paths_of g.paths.now)
  pub feats : length (paths_of g.paths.now).feats ≡ length g.signs.now.book.system.introducers

abbrev pub words_of : GenGrammar → Words
words_of g = words_by g.signs.now g.lexicon.now g.spelling.now

abbrev pub input_for : GenGrammar → Meaning → Input
input_for g meaning = input_of g.signs.now.book.system.types (paths_of g.paths.now) (map feature_of g.c_cont.now) meaning

-- the answer to an MRS within limits
abbrev pub IsMrsAnswer : GenGrammar → Meaning → declared.Limits → GenAnswer → Type 0
IsMrsAnswer g meaning limits a = IsAnswerTo g.signs.now g.lexicon.now g.spelling.now (paths_of g.paths.now) (map feature_of g.c_cont.now) meaning limits a
