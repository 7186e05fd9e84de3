-- The arms of the commands: a command that was asked for ended by its own meaning.
use Rattle.std.proofs.Common.{◌≡◌, ℕ, List, [], Option, sym, subst, Bool, Result}
use Rattle.command_line.specs.Commands.{form}
use Rattle.command_line.specs.declared.tasks.Command.{Command}
use Rattle.endings.specs.Meanings.{Files, Shelves}
use Rattle.endings.specs.Reports.{Streams, Output}
use Rattle.endings.specs.Endings.{Ended}
use Rattle.endings.specs.Notes.{IsNoted}
use Rattle.endings.proofs.NotedClauses.{quiet-ended, tells-nothing}
use Rattle.endings.specs.declared.Fault.{Fault}
use Rattle.top_call.specs.Commands.{meaning_of}

pub as-asked : (command asked : Command) (h : Shelves) (o : Streams) (idle untouched : Type 0) (end : Result Bool Fault) → command ≡ asked
    → Ended (meaning_of (form asked)) h o idle untouched end → Ended (meaning_of (form command)) h o idle untouched end
as-asked command asked h o idle untouched end e x = subst (λ (c : Command). Ended (meaning_of (form c)) h o idle untouched end) (sym e) x

-- a command without notes tells nothing
pub quiet-asked : (command asked : Command) (h : Shelves) (o : Streams) (idle untouched : Type 0) (end : Result Bool Fault) → command ≡ asked
    → ((gaps : Bool) (lines : List (List ℕ)) → (meaning_of (form asked)).notes h.files gaps lines []) → (told flushed : Option (List ℕ)) (faults : ℕ) → Ended (meaning_of (form command)) h o idle untouched end
    → IsNoted (meaning_of (form command)) h.files o.left_old o.left_new (record { written_old = told; written_new = told; flushed_new = flushed; faults_old = faults; faults_new = faults }) end
quiet-asked command asked h o idle untouched end e quiet told flushed faults x = (
  [],
  quiet-ended (meaning_of (form command)) h o idle untouched (subst (λ (c : Command). (gaps : Bool) (lines : List (List ℕ)) → (meaning_of (form c)).notes h.files gaps lines []) (sym e) quiet) end x,
  tells-nothing told faults,
)

pub as-noted : (command asked : Command) (files : Files) (old new : Option (List ℕ)) (p : Output) (end : Result Bool Fault) → command ≡ asked → IsNoted (meaning_of (form asked)) files old new p end → IsNoted (meaning_of (form command)) files old new p end
as-noted command asked files old new p end e x = subst (λ (c : Command). IsNoted (meaning_of (form c)) files old new p end) (sym e) x
