-- The first fault of the file of a workload.
use Rattle.std.proofs.Common.{◌≡◌, ℕ, List, Some, None, false, arith, subst}
use Rattle.lkb_io.specs.Outside.{HasRisen}
use Rattle.lkb_io.specs.Shelves.{NamedFile, file_or_empty}
use Rattle.endings.specs.Meanings.{Shelves, Files}
use Rattle.endings.specs.Endings.{NotCome, IsReportOn}
use Rattle.endings.specs.declared.commands.ItemsReport.{ItemsReport}
use Rattle.endings.specs.declared.commands.ItemsReport.TheVariants.{AllAnswered, WithGaps}
use Rattle.endings.specs.declared.Fault.{Fault}
use Rattle.endings.specs.declared.Fault.TheVariants.{Usage, Files as FilesFault, Stopped}
use Rattle.endings.specs.declared.Stop.TheVariants.{Read, TooLong, TooMany, Write, Gaps, NoMemory}
use Rattle.command_files.specs.Grammars.{never, IsFirstFault, LacksGrammar}
use Rattle.tree_model.specs.Items.{Limits}
use Rattle.engine.specs.Speeches.{Speech, HasSpeech}
use Rattle.engine.proofs.GrammarLaws.{Calm}
use Rattle.self_tests.specs.SelfTests.{workload_files, workload_name, self_test_meaning}
use Rattle.self_tests.specs.Inner.Counts.{IsWorkloadFault, IsSummedSo}

-- a shelf of these files that never fails
abbrev pub still : List NamedFile → Shelves
still files = record { files = Some (file_or_empty files); faults_old = 0; faults_new = 0; asked_new = None }

none-risen : HasRisen 0 0 → ⊥
none-risen risen = omega (arith, risen)

-- what is told of such a shelf with a workload's files
pub workload-fault : Calm → (files : List NamedFile) → Some (file_or_empty files) ≡ workload_files → (fault : Fault) → LacksGrammar (still files) workload_name None false fault → IsWorkloadFault fault
workload-fault calm files e (FilesFault text) x =
    (x.0, subst (λ (f : Files). IsFirstFault workload_name None false f never x.0) e (calm (still files) workload_name None false x.0 x.1 x.2 none-risen), λ file failed. none-risen (x.2 file failed).0, x.3)
workload-fault calm files e (Stopped NoMemory) x = tt
workload-fault calm files e (Usage text) x = absurd x
workload-fault calm files e (Stopped Read) x = absurd x
workload-fault calm files e (Stopped TooLong) x = absurd x
workload-fault calm files e (Stopped TooMany) x = absurd x
workload-fault calm files e (Stopped Write) x = absurd x
workload-fault calm files e (Stopped Gaps) x = absurd x

-- is why nothing came
pub fault-not-come : (number size : ℕ) (limits : Limits) (most : ℕ) (h : Shelves) (fault : Fault) → IsWorkloadFault fault → NotCome (self_test_meaning number size limits most) h fault
fault-not-come number size limits most h (FilesFault text) x = (x.0, (x.1, λ file failed. absurd (x.2 file failed)), x.3)
fault-not-come number size limits most h (Stopped NoMemory) x = tt
fault-not-come number size limits most h (Usage text) x = absurd x
fault-not-come number size limits most h (Stopped Read) x = absurd x
fault-not-come number size limits most h (Stopped TooLong) x = absurd x
fault-not-come number size limits most h (Stopped TooMany) x = absurd x
fault-not-come number size limits most h (Stopped Write) x = absurd x
fault-not-come number size limits most h (Stopped Gaps) x = absurd x

-- what is summed up is the report of `self-test`
pub told-report : (number size : ℕ) (limits : Limits) (most : ℕ) (h : Shelves) (lines : List (List ℕ)) (speech : Speech) → HasSpeech workload_files workload_name None speech
    → (report : ItemsReport) → IsSummedSo speech limits most number size report → IsReportOn (self_test_meaning number size limits most) h report lines
told-report number size limits most h lines speech has (AllAnswered r) summed = (speech, has, summed)
told-report number size limits most h lines speech has (WithGaps gapped) summed = (speech, has, summed)
