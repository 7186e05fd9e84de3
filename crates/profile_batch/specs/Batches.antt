-- What `batch` is to do: the items of a profile are compared with what the grammar of some files gives.
use Rattle.std.specs.Prelude.{ℕ, Bool, true, false, List, Option}
use Rattle.tree_model.specs.Items.{Limits}
use Rattle.grammar_files.specs.Faults.{FoundFault}
use Rattle.grammar_files.specs.Walks.{IsText}
use Rattle.grammar_load.specs.Loaded.{GrammarTree}
use Rattle.endings.specs.Meanings.{Meaning, Files, FileFault, no_notes}
use Rattle.command_files.specs.Told.{told_of}
use Rattle.command_files.specs.Texts.{IsTextFault}
use Rattle.command_files.specs.Shown.{AreShown}
use Rattle.command_files.specs.Grammars.{HasGrammar, IsFirstFault}
use Rattle.engine.specs.Speeches.{Speech, HasSpeech}
use Rattle.profile_reports.specs.Profiles.{items_of}
use Rattle.profile_batch.specs.Results.{IsReported, IsReportedWithGaps}

-- The first fault of the files, where the shelf fails at these names: that of the grammar, and where it has none that of the profile. `verbose`
-- says whether more is told of it.
pub data IsFirst (grammar : List ℕ) (settings : Option (List ℕ)) (verbose : Bool) (profile : List ℕ) (files : Files) (fails : List ℕ → Bool) : FileFault → Type 0 where
  of_grammar : (fault : FileFault) → IsFirstFault grammar settings verbose files fails fault → IsFirst grammar settings verbose profile files fails fault
  of_profile : (g : GrammarTree) (f : FoundFault) (details : List ℕ) → HasGrammar files grammar settings g → IsTextFault files fails profile f → AreShown verbose files f details
      → IsFirst grammar settings verbose profile files fails (told_of f details)

-- `batch`, within these limits: the report of the items of the profile's text. Each item has the limits for itself, and no input is read.
abbrev pub batch_meaning : List ℕ → Option (List ℕ) → Bool → List ℕ → Limits → ℕ → Meaning
batch_meaning grammar settings verbose profile limits most = record {
  opens = true;
  reads = false;
  loadable = λ files. ((g : GrammarTree) × HasGrammar files grammar settings g) × (text : List ℕ) × IsText files profile text;
  first = IsFirst grammar settings verbose profile;
  report = λ files lines pieces refused. ((speech : Speech) × HasSpeech files grammar settings speech × ((text : List ℕ) × IsText files profile text × IsReported speech limits most (items_of text) pieces refused));
  with_gaps = λ files lines pieces wanting. ((speech : Speech) × HasSpeech files grammar settings speech × ((text : List ℕ) × IsText files profile text × IsReportedWithGaps speech limits most (items_of text) pieces wanting));
  notes = no_notes;
}
