-- What `scope` is to do: the MRSs that the lines of the input write are answered by their scoped readings.
use Rattle.std.specs.Prelude.{ℕ, true, false}
use Rattle.endings.specs.Meanings.{Meaning, no_notes}
use Rattle.endings.specs.Reports.{AreAnswers, OrNoMemory}
use Rattle.scope_commands.specs.Answers.{IsAnswer}

-- `scope`: the answers to the lines, one after the other, at most `max` readings to an MRS. It has no files.
abbrev pub scope_meaning : ℕ → Meaning
scope_meaning max = record {
  opens = false;
  reads = true;
  loadable = λ files. Unit {0};
  first = λ files fails fault. ⊥;
  report = λ files lines pieces refused. AreAnswers (IsAnswer max) 1 lines pieces refused;
  with_gaps = λ files lines pieces wanting. AreAnswers (OrNoMemory (IsAnswer max)) 1 lines pieces wanting;
  notes = no_notes;
}
