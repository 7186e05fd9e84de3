-- What holds of every grammar that is loaded, and what calls ask of a grammar.
use Rattle.std.specs.Prelude.{ℕ, ◌≡◌, ◌<◌, List, map, filter, length}
use Rattle.std.specs.List.{range_with_len}
use Rattle.tdl_reader.specs.declared.Status.TheVariants.{LexRule}
use Rattle.fs_model.specs.Claims.{IsBare}
use Rattle.fs_model.specs.Closure.{IsConsistent}
use Rattle.fs_model.specs.Sources.{Tells}
use Rattle.fs_graph.specs.GraphMap.{GraphMap, reader_of}
use Rattle.fs_unify.specs.Rules.{Grammar, IsGrammar, system_of}
use Rattle.fs_unify.specs.Placing.{IsAnswerIn}
use Rattle.grammar_files.specs.Statements.{is_status}
use Rattle.constraint_expand.specs.Books.{InstanceMap}
use Rattle.lexicon.specs.Words.{Each}
use Rattle.lexicon.specs.Entries.{EntryTree}
use Rattle.spelling_rules.specs.Trees.{AreBound}
use Rattle.book_shapes.specs.Shapes.{instances_of, entries_in, HasItsDaughters}
use Rattle.grammar_load.specs.Loaded.{GrammarTree}

-- a structure under a type system: what it says is consistent, and closing it adds nothing
pub record IsClosedIn (g : Grammar) (graph : GraphMap) : Type 0 where
  pub consistent : IsConsistent (system_of g) (Tells (reader_of graph))
  pub answer : IsAnswerIn g graph

-- the lexical rules in order of place
abbrev pub lexical_rules_in : List InstanceMap → List InstanceMap
lexical_rules_in is = filter (λ i. is_status i.status LexRule) is

-- numbered from 0, as many as a count
abbrev pub AreNumbered : ℕ → List EntryTree → Type 0
AreNumbered count es = map (λ e. e.number) es ≡ range_with_len 0 count

-- The condition on a grammar. Its type system is in range, and nothing is written of the top type; each instance is consistent
-- and closed, and has its daughters if it is a rule. The lexicon has the book's entries, each once and with a word, and the
-- spelling its lexical rules, each once, numbered in order of place; each instance has a name.
pub record IsLoaded (g : GrammarTree) : Type 0 where
  pub in_range : IsGrammar g.book.system
  pub bare : IsBare (system_of g.book.system)
  pub closed : Each (λ i. IsClosedIn g.book.system i.structure) (instances_of g.book)
  pub daughters : Each (HasItsDaughters g.book) (instances_of g.book)
  pub entries : AreNumbered (length (entries_in (instances_of g.book))) g.lexicon
  pub words : Each (λ e. 0 < length e.words) g.lexicon
  pub lexical_rules : length g.spelling.rules ≡ length (lexical_rules_in (instances_of g.book))
  pub spelled : AreBound g.spelling.rules
  pub named : length g.names ≡ length (instances_of g.book)
