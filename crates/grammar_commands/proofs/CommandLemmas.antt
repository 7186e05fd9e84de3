-- What holds of every command over a grammar.
use Rattle.std.proofs.Common.{◌≡◌, ℕ, List, Option, Some, Ok, Bool, ◌∙◌, sym}
use Rattle.endings.specs.Meanings.{Lawful, Shelves, FileFault, has_failed}
use Rattle.lkb_io.specs.Outside.{HasRisen}
use Rattle.grammar_load.specs.Loaded.{GrammarTree}
use Rattle.grammar_load.specs.Outcomes.{IsSameGrammar}
use Rattle.grammar_load.specs.Loads.{Makes, makes, Loads, loads}
use Rattle.grammar_files.specs.Reads.{ReadTree}
use Rattle.grammar_load.specs.Expanding.{names_by}
use Rattle.command_files.specs.Grammars.{never, HasGrammar, IsFirstFault, IsOfShelf}
use Rattle.grammar_commands.specs.Books.{IsSomeBook}
use Rattle.grammar_commands.specs.Commands.{grammar_meaning}

abbrev pub OneGrammar : Type 0
OneGrammar = (files : List ℕ → Option (List ℕ)) (name : List ℕ) (settings : Option (List ℕ)) (g h : GrammarTree) → HasGrammar (Some files) name settings g → HasGrammar (Some files) name settings h → IsSameGrammar g h

abbrev pub OneFault : Type 0
OneFault = (files : List ℕ → Option (List ℕ)) (name : List ℕ) (settings : Option (List ℕ)) (verbose : Bool) (f g : FileFault) → IsFirstFault name settings verbose (Some files) never f → IsFirstFault name settings verbose (Some files) never g → f.text ≡ g.text

abbrev pub NotBoth : Type 0
NotBoth = (files : List ℕ → Option (List ℕ)) (name : List ℕ) (settings : Option (List ℕ)) (verbose : Bool) (g : GrammarTree) (f : FileFault) → HasGrammar (Some files) name settings g → IsFirstFault name settings verbose (Some files) never f → ⊥

abbrev pub Calm : Type 0
Calm = (h : Shelves) (name : List ℕ) (settings : Option (List ℕ)) (verbose : Bool) (fault : FileFault) → IsFirstFault name settings verbose h.files (has_failed h) fault → IsOfShelf h fault → (HasRisen h.faults_old h.faults_new → ⊥) → IsFirstFault name settings verbose h.files never fault

pub lawful : OneGrammar → OneFault → NotBoth → Calm → (reports : GrammarTree → List (List ℕ) → Bool → Type 0)
    → ((g h : GrammarTree) → IsSameGrammar g h → (pieces others : List (List ℕ)) (refused may : Bool) → reports g pieces refused → reports h others may → (pieces ≡ others) × (refused ≡ may))
    → (name : List ℕ) (settings : Option (List ℕ)) (verbose : Bool) → Lawful (grammar_meaning reports name settings verbose)
lawful one fault both calm reports same name settings verbose = record {
  loads = λ files lines pieces refused r. (r.0, r.1);
  gaps_load = λ files lines pieces wanting r. (r.2.0, r.2.1);
  no_gap = λ files lines pieces r. (r.1, r.2);
  one_first = λ files f g a b. fault files name settings verbose f g a b;
  not_both = λ files f l a. both files name settings verbose l.0 f l.1 a;
  one_report = λ files lines pieces others refused may p q. same p.0 q.0 (one files name settings p.0 q.0 p.1 q.1) pieces others refused may p.2 q.2;
  one_notes = λ files lines text other p q. p ∙ sym q;
  calm = λ h f x none. calm h name settings verbose f x.0 x.1 none;
}

made-book : (r : ReadTree) (g : GrammarTree) → Makes r (Ok g) → IsSomeBook g.book
made-book r _ (makes g is) = record { types = is.book.types; settled = names_by r.walked.settings; statements = r.walked.statements; is = is.book.expanded }

-- a grammar that is loaded has the book of its statements
pub some-book : (files : Option (List ℕ → Option (List ℕ))) (name : List ℕ) (settings : Option (List ℕ)) (g : GrammarTree) → HasGrammar files name settings g → IsSomeBook g.book
some-book files name settings g (loads r _ read made) = made-book r g made
