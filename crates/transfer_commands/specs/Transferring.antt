-- What `transfer` is to do: the MRSs that the lines of the input write are answered by what rules make of them.
use Rattle.std.specs.Prelude.{ℕ, Bool, true, List, Option}
use Rattle.endings.specs.Meanings.{Meaning, no_notes}
use Rattle.endings.specs.Reports.{AreAnswers, OrNoMemory}
use Rattle.transfer_commands.specs.Rewriters.{Rewriter, HasRewriter}
use Rattle.transfer_commands.specs.Faults.{IsFirstFault}
use Rattle.transfer_commands.specs.Answers.{IsAnswer}

-- `transfer`: the answers to the lines, one after the other, by the rules of the file of this name under the settings of the file of that name.
-- `verbose` says whether more is told of a fault of the files.
abbrev pub transfer_meaning : List ℕ → Option (List ℕ) → Bool → Meaning
transfer_meaning rules settings verbose = record {
  opens = true;
  reads = true;
  loadable = λ files. (w : Rewriter) × HasRewriter files rules settings w;
  first = λ files fails fault. IsFirstFault rules settings verbose files fails fault;
  report = λ files lines pieces refused. (w : Rewriter) × HasRewriter files rules settings w × AreAnswers (IsAnswer w) 1 lines pieces refused;
  with_gaps = λ files lines pieces wanting. (w : Rewriter) × HasRewriter files rules settings w × AreAnswers (OrNoMemory (IsAnswer w)) 1 lines pieces wanting;
  notes = no_notes;
}
