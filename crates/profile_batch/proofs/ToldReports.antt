-- What is told of the items of a profile is the report of `batch`.
use Rattle.std.proofs.Common.{ℕ, List, Bool, Option}
use Rattle.tree_model.specs.Items.{Limits}
use Rattle.grammar_files.specs.Walks.{IsText}
use Rattle.endings.specs.Meanings.{Shelves}
use Rattle.endings.specs.Endings.{IsReportOn}
use Rattle.endings.specs.declared.commands.ItemsReport.{ItemsReport}
use Rattle.endings.specs.declared.commands.ItemsReport.TheVariants.{AllAnswered, WithGaps}
use Rattle.engine.specs.Speeches.{Speech, HasSpeech}
use Rattle.profile_reports.specs.Profiles.{items_of}
use Rattle.profile_batch.specs.Batches.{batch_meaning}
use Rattle.profile_batch.specs.Inner.Told.{IsToldOf}

module _ (grammar : List ℕ) (settings : Option (List ℕ)) (verbose : Bool) (profile : List ℕ) (limits : Limits) (most : ℕ) (h : Shelves) (lines : List (List ℕ)) where
  pub told-report : (speech : Speech) → HasSpeech h.files grammar settings speech → (text : List ℕ) → IsText h.files profile text
      → (report : ItemsReport) → IsToldOf speech limits most (items_of text) report → IsReportOn (batch_meaning grammar settings verbose profile limits most) h report lines
  told-report speech has text is (AllAnswered r) told = (speech, has, (text, is, told))
  told-report speech has text is (WithGaps gapped) told = (speech, has, (text, is, told))
