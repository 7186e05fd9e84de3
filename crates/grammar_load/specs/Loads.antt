-- The grammar of the files, or their first fault.
use Rattle.std.specs.Prelude.{ℕ, ◌<◌, Bool, length, Option, Result, Ok, Err}
use Rattle.constraint_expand.specs.declared.books.Book.{Book}
use Rattle.grammar_files.specs.Statements.{instances_in}
use Rattle.lexicon.specs.Words.{Each}
use Rattle.grammar_settings.specs.Forms.{Name}
use Rattle.grammar_files.specs.declared.fault.Why.TheVariants.{Arity, Orthography}
use Rattle.grammar_files.specs.Faults.{FoundFault}
use Rattle.grammar_files.specs.Walks.{Files, WalkedTree}
use Rattle.grammar_types.specs.Typings.{IsTypesFault, fault_of, statement_at}
use Rattle.grammar_load.specs.Expanding.{IsBook, IsExpandFault}
use Rattle.grammar_files.specs.Reads.{ReadTree, ReadsTo}
use Rattle.book_shapes.specs.Shapes.{instances_of, HasItsDaughters, HasItsWords, IsFirstPlace}
use Rattle.grammar_load.specs.Loaded.{GrammarTree, IsGrammarOf, orth_path}

-- The first fault of shape, at the name of its instance: a rule without its daughters, and where there is none an entry without words.
pub data IsShapeFault (w : WalkedTree) (b : Book) : FoundFault → Type 0 where
  of_arity : (place : ℕ) → place < length (instances_of b) → IsFirstPlace (HasItsDaughters b) (instances_of b) place
      → IsShapeFault w b (fault_of w (statement_at (instances_in w.statements) place) Arity)
  of_words : (place : ℕ) → Each (HasItsDaughters b) (instances_of b) → place < length (instances_of b)
      → IsFirstPlace (HasItsWords b (orth_path b w.settings)) (instances_of b) place
      → IsShapeFault w b (fault_of w (statement_at (instances_in w.statements) place) Orthography)

-- What was read has a grammar, or a first fault: of its types, then of its expansion, then of the shapes of its instances.
pub data Makes (r : ReadTree) : Result GrammarTree FoundFault → Type 0 where
  untyped : (f : FoundFault) → IsTypesFault r.walked f → Makes r (Err f)
  unexpanded : (f : FoundFault) → IsExpandFault r.walked f → Makes r (Err f)
  misshapen : (b : Book) (f : FoundFault) → IsBook r.walked b → IsShapeFault r.walked b f → Makes r (Err f)
  makes : (g : GrammarTree) → IsGrammarOf r g → Makes r (Ok g)

-- What the files of a grammar load to: their first fault where they can't be read, and otherwise what was read makes.
pub data Loads (files : Files) (fails : Name → Bool) (top : Name) (settings : Option Name) : Result GrammarTree FoundFault → Type 0 where
  unread : (f : FoundFault) → ReadsTo files fails top settings (Err f) → Loads files fails top settings (Err f)
  loads : (r : ReadTree) (end : Result GrammarTree FoundFault) → ReadsTo files fails top settings (Ok r) → Makes r end → Loads files fails top settings end
