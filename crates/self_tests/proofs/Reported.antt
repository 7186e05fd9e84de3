-- What is counted, as a report.
use Rattle.std.proofs.Common.{◌≡◌, ◌∙◌, ◌+◌, ◌%◌, ℕ, List, [], ◌∷◌, ◌++◌, length, sym, ap}
use Rattle.std.proofs.lemmas.List.FromFn.{length-map-range_with_len}
use Rattle.std.proofs.lemmas.Slice.Zip.{AllZip-long}
use Rattle.tree_model.specs.Items.{Limits}
use Rattle.self_tests.specs.declared.counts.Count.{Count}
use Rattle.self_tests.specs.Summaries.{summary_line}
use Rattle.grammar_load.specs.Loaded.{GrammarTree}
use Rattle.self_tests.specs.Lines.{line, lines}
use Rattle.endings.specs.declared.commands.ItemsReport.{ItemsReport}
use Rattle.endings.specs.declared.commands.ItemsReport.TheVariants.{AllAnswered, WithGaps}
use Rattle.engine.specs.Speeches.{Speech, IsSpeechOf}
use Rattle.self_tests.specs.Items.{IsCountOrGap}
use Rattle.self_tests.specs.Inner.Counts.{AreCountedWith, IsToldOf, IsSummedSo}
use Rattle.self_tests.proofs.CountedLines.{all-counted, no-gap-lines}

-- a workload has so many lines
pub line-count : (number size : ℕ) → length (lines number size) ≡ size
line-count number size = length-map-range_with_len (λ i. line (number % 1000 + i)) 0 size

module _ (g : GrammarTree) (limits : Limits) (most number size : ℕ) (counts : List Count) (z : AreCountedWith g limits most (lines number size) counts) where
  -- one is counted of each line
  pub as-many : length counts ≡ size
  as-many = AllZip-long (IsCountOrGap z.0.signs z.0.words limits most) (lines number size) counts z.2 ∙ line-count number size

  pub summed : (report : ItemsReport) → IsToldOf number size counts report → (speech : Speech) × IsSpeechOf g speech × IsSummedSo speech limits most number size report
  summed (AllAnswered r) told =
      let only = ap (λ gaps. gaps ++ summary_line number size counts ∷ []) (no-gap-lines 1 counts told.0) in
      (z.0, z.1, (counts, all-counted z.0 limits most (lines number size) counts z.2 told.0, told.1 ∙ only, told.2))
  summed (WithGaps gapped) told = (z.0, z.1, (counts, z.2, told.1, sym told.0))
