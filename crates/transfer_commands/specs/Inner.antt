-- Words between one function and the next; no public clause cites them.
use Rattle.std.specs.Prelude.{ℕ, ◌≡◌, ◌++◌, Bool, true, List, [], String, map, string_bytes}
use Rattle.std.specs.Global.{Global}
use Rattle.std.specs.List.{list_any}
use Rattle.std.specs.Str.{bytes_eq}
use Rattle.mrs_model.specs.Meanings.{Meaning}
use Rattle.tdl_reader.specs.Trees.{StatementTree}
use Rattle.grammar_settings.specs.Forms.{Name}
use Rattle.grammar_files.specs.declared.fault.LoadFault.{LoadFault}
use Rattle.grammar_files.specs.declared.fault.LoadFault.TheVariants.{NoMemory as LoadNoMemory, Found}
use Rattle.grammar_files.specs.Walks.{Files, fault_at}
use Rattle.endings.specs.declared.Fault.{Fault}
use Rattle.endings.specs.declared.Fault.TheVariants.{Files as FilesFault, Stopped}
use Rattle.endings.specs.declared.Stop.TheVariants.{NoMemory}
use Rattle.command_files.specs.Shown.{AreLines, AreShown}
use Rattle.command_files.specs.Told.{IsToldBy}
use Rattle.transfer_model.specs.Rules.{Rule}
use Rattle.transfer_rules.specs.Forms.{IsFirstOutside}
use Rattle.transfer_commands.specs.Rewriters.{Rewriter}
use Rattle.transfer_commands.specs.Faults.{form_text, IsFormShown}
use Rattle.transfer_commands.specs.Reports.{TransferAnswer, answer_lines, is_refused}
use Rattle.transfer_commands.specs.Answers.{IsAnswerTo}

-- the lines of the answer to an MRS
pub record IsReportOn (w : Rewriter) (number : ℕ) (m : Meaning) (lines : List (List ℕ)) (refused : Bool) : Type 0 where
  pub answer : TransferAnswer
  pub is : IsAnswerTo w m answer
  pub lines_are : lines ≡ answer_lines number answer
  pub refused_is : refused ≡ is_refused answer

-- this line tells a fault; want of memory may come in its place
abbrev pub IsTold : List ℕ → Fault → Type 0
IsTold line (FilesFault text) = text.items ≡ line
IsTold line (Stopped NoMemory) = Unit {0}
IsTold line other = ⊥

-- the same of this line and lines that follow it, of which P holds
abbrev pub IsToldWith : List ℕ → (List ℕ → Type 0) → Fault → Type 0
IsToldWith line P (FilesFault text) = (details : List ℕ) × P details × (text.items ≡ line ++ details)
IsToldWith line P (Stopped NoMemory) = Unit {0}
IsToldWith line P other = ⊥

-- the lines that show a fault of files under the flag
abbrev pub AreShownOf : Files → LoadFault → List ℕ → Type 0
AreShownOf files (Found file at why) lines = AreShown true files (fault_at (string_bytes file) at why) lines
AreShownOf files LoadNoMemory lines = lines ≡ []

-- a fault of files is told by its line and the lines that show it, or memory was wanting
abbrev pub IsToldIn : Bool → Files → LoadFault → Fault → Type 0
IsToldIn verbose files (Found file at why) end = IsToldBy (λ f details. (f ≡ fault_at (string_bytes file) at why) × AreShown verbose files f details) end
IsToldIn verbose files LoadNoMemory end = IsToldBy (λ f details. ⊥) end

-- Why statements of the file of this name make no rules: the first one that is outside the form is told, with lines that may show it.
abbrev pub IsOutOfForm : Bool → Files → Name → List StatementTree → Fault → Type 0
IsOutOfForm verbose files name ss (FilesFault text) =
    (at : ℕ) × (details : List ℕ) × IsFirstOutside ss at × AreLines verbose (IsFormShown files name at) details × (text.items ≡ form_text name at ++ details)
IsOutOfForm verbose files name ss (Stopped NoMemory) = Unit {0}
IsOutOfForm verbose files name ss other = ⊥

-- a set of names has a name
abbrev pub has_name : List (String Global) → Name → Bool
has_name keys name = list_any (λ k. bytes_eq name (string_bytes k)) keys

-- of each rule whether a set of names has its name
abbrev pub skipped_in : List (String Global) → List Rule → List Bool
skipped_in keys rules = map (λ r. has_name keys r.name) rules
