-- The answer to a line by a grammar's signs, its lexicon and its spelling.
use Rattle.std.specs.Prelude.{◌≡◌, List}
use Rattle.chart_core.specs.declared.Limits.{Limits}
use Rattle.lexicon.specs.Entries.{EntryTree}
use Rattle.spelling_rules.specs.Trees.{SpellingTree}
use Rattle.morph_analysis.specs.Allowed.{FeedsTree}
use Rattle.morph_analysis.specs.Lattices.{LatticeTree}
use Rattle.tree_model.specs.Signs.{rule_system}
use Rattle.tree_model.specs.Lexical.{Words}
use Rattle.tree_model.specs.Items.{Answer}
use Rattle.tree_model.specs.Answers.{IsParseAnswer}
use Rattle.packed_items.specs.Answers.{limits_in}
use Rattle.lexical_items.specs.Said.{AreNumbered, words_said}
use Rattle.lexical_items.specs.Seen.{lattice_seen, ForbidsNone}
use Rattle.book_signs.specs.Trees.{SignTree, signs_of, entries_of, lexical_rules_of}
use Rattle.grammar_shapes.specs.declared.shapes.GrammarShapes.{GrammarShapes}
use Rattle.grammar_shapes.specs.Systems.{grammar_of, rules_of}
use Rattle.grammar_rules.specs.Remembered.{IsMemoryOf}
use Rattle.grammar_rules.specs.declared.grammar.LineGrammar.{LineGrammar}

-- the shapes are those of the phrase rules of these signs
pub record AreShapesOf (t : SignTree) (s : GrammarShapes) : Type 0 where
  pub grammar : grammar_of s ≡ t.book.system
  pub rules : rules_of s ≡ rule_system (signs_of t)

-- the tables of what may apply to what forbid no lexical tree of these signs
abbrev pub AreFeedsOf : SignTree → FeedsTree → Type 0
AreFeedsOf t feeds = ForbidsNone (signs_of t) (entries_of (signs_of t)) (lexical_rules_of (signs_of t)) feeds

-- the lexicon has the entries and the spelling the lexical rules of these signs, each once; and each entry has a word
abbrev pub HaveAll : SignTree → List EntryTree → SpellingTree → Type 0
HaveAll t lexicon s = AreNumbered (entries_of (signs_of t)) (lexical_rules_of (signs_of t)) lexicon s

-- what lines are answered by is made of its signs, and lexicon and spelling have their entries and lexical rules
pub record IsLineGrammar (g : LineGrammar) : Type 0 where
  pub shapes : AreShapesOf g.signs.now g.shapes.now
  pub shared : IsMemoryOf g.signs.now g.shapes.now g.shared.now
  pub feeds : AreFeedsOf g.signs.now g.feeds.now
  pub have : HaveAll g.signs.now g.lexicon.now g.spelling.now

-- The words of an entry are those that the lexicon gives, and the forms under a lexical rule those that the spelling gives.
abbrev pub words_by : LineGrammar → Words
words_by g = words_said (entries_of (signs_of g.signs.now)) (lexical_rules_of (signs_of g.signs.now)) g.lexicon.now g.spelling.now

-- The answer to a line, by the signs and these words.
abbrev pub IsLineAnswer : LineGrammar → LatticeTree → Limits → Answer → Type 0
IsLineAnswer g lattice limits a = IsParseAnswer (signs_of g.signs.now) (words_by g) (lattice_seen lattice) limits.lexical (limits_in limits) a
