-- What holds of the grammar of some files, as laws of commands cite it; and what is said by it once is said once of its files.
use Rattle.std.proofs.Common.{◌≡◌, ℕ, List, Option, Some, Bool}
use Rattle.endings.specs.Meanings.{Files, Shelves, FileFault, has_failed}
use Rattle.lkb_io.specs.Outside.{HasRisen}
use Rattle.fs_model.specs.Claims.{IsOrder}
use Rattle.tree_model.specs.Said.{SameViews}
use Rattle.grammar_load.specs.Loaded.{GrammarTree}
use Rattle.grammar_load.specs.Outcomes.{IsSameGrammar}
use Rattle.command_files.specs.Grammars.{never, HasGrammar, IsFirstFault, IsOfShelf}
use Rattle.engine.specs.Speeches.{Speech, HasSpeech}
use Rattle.engine.proofs.Speeches.{OneSigns, one-speech, speech-ordered}

abbrev pub OneGrammar : Type 0
OneGrammar = (files : List ℕ → Option (List ℕ)) (name : List ℕ) (settings : Option (List ℕ)) (g h : GrammarTree) → HasGrammar (Some files) name settings g → HasGrammar (Some files) name settings h → IsSameGrammar g h

abbrev pub OneFault : Type 0
OneFault = (files : List ℕ → Option (List ℕ)) (name : List ℕ) (settings : Option (List ℕ)) (verbose : Bool) (f g : FileFault) → IsFirstFault name settings verbose (Some files) never f → IsFirstFault name settings verbose (Some files) never g → f.text ≡ g.text

abbrev pub NotBoth : Type 0
NotBoth = (files : List ℕ → Option (List ℕ)) (name : List ℕ) (settings : Option (List ℕ)) (verbose : Bool) (g : GrammarTree) (f : FileFault) → HasGrammar (Some files) name settings g → IsFirstFault name settings verbose (Some files) never f → ⊥

abbrev pub Calm : Type 0
Calm = (h : Shelves) (name : List ℕ) (settings : Option (List ℕ)) (verbose : Bool) (fault : FileFault) → IsFirstFault name settings verbose h.files (has_failed h) fault → IsOfShelf h fault → (HasRisen h.faults_old h.faults_new → ⊥) → IsFirstFault name settings verbose h.files never fault

-- told files have one speech, whose types are in order
pub speeches-same : OneGrammar → SameViews → OneSigns → (files : List ℕ → Option (List ℕ)) (name : List ℕ) (settings : Option (List ℕ)) (s t : Speech) → HasSpeech (Some files) name settings s → HasSpeech (Some files) name settings t → s ≡ t
speeches-same one views signs files name settings s t p q =
    one-speech views signs (Some files) name settings p.0 q.0 q.1 (one files name settings p.0 q.0 p.1 q.1) s t p.2 q.2

pub has-order : (files : Files) (name : List ℕ) (settings : Option (List ℕ)) (s : Speech) → HasSpeech files name settings s → IsOrder s.signs.system
has-order files name settings s p = speech-ordered files name settings p.0 s p.1 p.2
