-- The grammar of what was read (DELPH-IN TDL; Copestake 2002).
use Rattle.std.specs.Prelude.{ℕ, ◌≡◌, List, map, Option}
use Rattle.type_hierarchy.specs.Decls.{Name, texts}
use Rattle.grammar_files.specs.Placings.{PlacedTree}
use Rattle.grammar_files.specs.Statements.{instances_in, name_of}
use Rattle.constraint_expand.specs.declared.books.Book.{Book}
use Rattle.constraint_expand.specs.Books.{feature_named}
use Rattle.lexicon.specs.Words.{Each}
use Rattle.lexicon.specs.Entries.{EntryTree, IsLexiconOf}
use Rattle.spelling_rules.specs.Trees.{SpellingTree}
use Rattle.grammar_load.specs.Spellings.{lexical_rules, spellings_of}
use Rattle.grammar_load.specs.IrregularLines.{lines_said}
use Rattle.grammar_settings.specs.Settled.{SettingsTree}
use Rattle.grammar_load.specs.Expanding.{IsBook}
use Rattle.grammar_files.specs.Reads.{ReadTree}
use Rattle.book_shapes.specs.Shapes.{instances_of, HasItsDaughters, AreEntriesOf}

-- what contracts see of a grammar
pub record GrammarTree : Type 0 where
  pub book : Book
  pub lexicon : List EntryTree
  pub spelling : SpellingTree
  pub settings : SettingsTree
  pub names : List Name

-- the path to an entry's words, as the book's features
abbrev pub orth_path : Book → SettingsTree → List (Option ℕ)
orth_path b s = map (feature_named (texts b.feats.items)) s.orth_path

-- the spelling of lexical rules, with the irregular forms of a text
abbrev pub spelling_said : List PlacedTree → List ℕ → SpellingTree
spelling_said ps irregular = record { rules = spellings_of (lexical_rules ps); lines = lines_said (map name_of (lexical_rules ps)) irregular }

-- The grammar of what was read: the book of its statements, whose rules have their daughters; its entries with their words,
-- and its lexical rules with their spelling, each numbered from 0 in order of place; the settings, and the names of instances by place.
pub record IsGrammarOf (r : ReadTree) (g : GrammarTree) : Type 0 where
  pub book : IsBook r.walked g.book
  pub daughters : Each (HasItsDaughters g.book) (instances_of g.book)
  pub given : List EntryTree
  pub entries : AreEntriesOf g.book (orth_path g.book r.walked.settings) (instances_of g.book) given
  pub lexicon : IsLexiconOf given g.lexicon
  pub spelling : g.spelling ≡ spelling_said r.walked.statements r.irregular
  pub settings : g.settings ≡ r.walked.settings
  pub names : g.names ≡ map name_of (instances_in r.walked.statements)
