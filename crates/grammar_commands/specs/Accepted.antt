-- Which grammars are accepted, in the words of their files alone: no condition of the program stands here (Copestake 2002; DELPH-IN TDL).
use Rattle.std.specs.Prelude.{ℕ, ◌≡◌, List, map, Option, Some, Ok}
use Rattle.std.specs.List.{AllZip, range_with_len}
use Rattle.fs_model.specs.Sources.{IsUnified}
use Rattle.type_hierarchy.specs.Decls.{texts}
use Rattle.type_hierarchy.specs.Table.{TypeTable, completed_count}
use Rattle.fs_graph.specs.GraphMap.{GraphMap, IsGraph, reader_of}
use Rattle.fs_unify.specs.Rules.{Grammar, system_of}
use Rattle.fs_unify.specs.Given.{facts_source}
use Rattle.body_facts.specs.Claimed.{WordTable}
use Rattle.grammar_files.specs.Placings.{PlacedTree}
use Rattle.grammar_files.specs.Statements.{instances_in, name_of}
use Rattle.constraint_expand.specs.declared.books.Book.{Book}
use Rattle.constraint_expand.specs.Statements.{IsNowhere}
use Rattle.constraint_expand.specs.Systems.{Settled, IsSystemOf, constraint_claims, instance_claims, words_of}
use Rattle.constraint_expand.specs.Unknowns.{NamesUnknown}
use Rattle.constraint_expand.specs.Faults.{HasNoStructure}
use Rattle.constraint_expand.specs.Books.{InstanceMap, numbered_of, numbered_in}
use Rattle.lexicon.specs.Words.{Each}
use Rattle.lexicon.specs.Entries.{EntryTree, IsLexiconOf}
use Rattle.grammar_types.specs.Typings.{AreTypesOf}
use Rattle.grammar_files.specs.Walks.{WalkedTree}
use Rattle.grammar_load.specs.Expanding.{names_by}
use Rattle.grammar_files.specs.Reads.{ReadTree, ReadsTo}
use Rattle.book_shapes.specs.Shapes.{instances_of, HasItsDaughters, AreEntriesOf}
use Rattle.grammar_load.specs.Loaded.{GrammarTree, orth_path, spelling_said}
use Rattle.command_files.specs.Told.{never}
use Rattle.endings.specs.Meanings.{Files}

-- The constraint of a type: the structure of its closure.
abbrev pub IsPlainConstraint : Grammar → ℕ → GraphMap → Type 0
IsPlainConstraint g t graph = IsUnified (system_of g) (facts_source (constraint_claims t)) (Some (reader_of graph))

-- An instance has its definition's status, and the structure of what its body says.
pub record IsPlainInstance (g : Grammar) (w : WordTable) (p : PlacedTree) (i : InstanceMap) : Type 0 where
  pub status : i.status ≡ p.status
  pub structure : IsUnified (system_of g) (facts_source (instance_claims w p)) (Some (reader_of i.structure))

-- What statements expand to: each name is one of a type; features have introducers, and types what their definitions and addenda say; no
-- definition lacks a structure within the limit on paths; each completed type has its constraint and each instance its structure; and what
-- the settings name has its number.
pub record IsPlainBookOf (types : TypeTable) (s : Settled) (ps : List PlacedTree) (b : Book) : Type 0 where
  pub known : IsNowhere ps (NamesUnknown types s.lists ps)
  pub system : IsSystemOf types s ps (texts b.feats.items) b.system
  pub shaped : IsNowhere ps (HasNoStructure b.system s (texts b.feats.items))
  pub constraints : AllZip (IsPlainConstraint b.system) (range_with_len 0 (completed_count b.system.types)) b.constraints.items
  pub instances : AllZip (IsPlainInstance b.system (words_of b.system.types s.lists (texts b.feats.items))) (instances_in ps) (instances_of b)
  pub names : numbered_of b.names ≡ numbered_in types (texts b.feats.items) s

-- The same of what was read, over its completed types and under the names of its settings.
pub record IsPlainBook (w : WalkedTree) (b : Book) : Type 0 where
  pub types : TypeTable
  pub settled : AreTypesOf w types
  pub expanded : IsPlainBookOf types (names_by w.settings) w.statements b

-- The grammar of what was read: this book, whose rules have their daughters; its entries with their words, and its lexical rules with their
-- spelling; the settings, and the names of instances by place.
pub record IsPlainGrammarOf (r : ReadTree) (g : GrammarTree) : Type 0 where
  pub book : IsPlainBook r.walked g.book
  pub daughters : Each (HasItsDaughters g.book) (instances_of g.book)
  pub given : List EntryTree
  pub entries : AreEntriesOf g.book (orth_path g.book r.walked.settings) (instances_of g.book) given
  pub lexicon : IsLexiconOf given g.lexicon
  pub spelling : g.spelling ≡ spelling_said r.walked.statements r.irregular
  pub settings : g.settings ≡ r.walked.settings
  pub names : g.names ≡ map name_of (instances_in r.walked.statements)

-- The structures of a book are graphs: no node reaches itself, and each is numbered by the least path that leads to it.
pub record AreGraphs (b : Book) : Type 0 where
  pub constraints : Each IsGraph b.constraints.items
  pub instances : Each (λ i. IsGraph i.structure) (instances_of b)

-- Files are read without a fault, and this is the grammar of what was read.
pub record IsAccepted (files : Files) (name : List ℕ) (settings : Option (List ℕ)) (g : GrammarTree) : Type 0 where
  pub read : ReadTree
  pub reads : ReadsTo files never name settings (Ok read)
  pub grammar : IsPlainGrammarOf read g
  pub graphs : AreGraphs g.book
