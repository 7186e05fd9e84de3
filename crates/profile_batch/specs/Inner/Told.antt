-- What is told of the items of a profile.
use Rattle.std.specs.Prelude.{ℕ, Bool, true, false, List, map}
use Rattle.tree_model.specs.Items.{Limits}
use Rattle.endings.specs.declared.commands.ItemsReport.{ItemsReport}
use Rattle.endings.specs.declared.commands.ItemsReport.TheVariants.{AllAnswered, WithGaps}
use Rattle.engine.specs.Speeches.{Speech}
use Rattle.profile_reports.specs.Profiles.{Item}
use Rattle.profile_reports.specs.declared.report.ProfileReport.{ProfileReport}
use Rattle.profile_batch.specs.Results.{IsReported, IsReportedWithGaps}

-- the report where each item has its result, or the one in which items for which memory was wanting are told to be so
abbrev pub IsToldOf : Speech → Limits → ℕ → List Item → ItemsReport → Type 0
IsToldOf speech limits most items (AllAnswered r) = IsReported speech limits most items (map (λ l. l.items) r.lines.items) r.refused
IsToldOf speech limits most items (WithGaps lines) = IsReportedWithGaps speech limits most items (map (λ l. l.items) lines.items) true

-- a report on items as it is given on, by whether memory was wanting for one
abbrev pub told_as : ProfileReport → Bool → ItemsReport
told_as found false = AllAnswered (record { lines = found.lines; refused = found.refused })
told_as found true = WithGaps found.lines
