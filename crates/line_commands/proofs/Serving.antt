-- What an engine gives for a command over lines, as the end of its run.
use Rattle.std.proofs.Common.{ℕ, List, [], Option, Bool, Ok, Err, refl, inl}
use Rattle.endings.specs.declared.Stop.{Stop}
use Rattle.endings.specs.declared.Stop.TheVariants.{Read, TooLong, TooMany, Write, Gaps, NoMemory}
use Rattle.endings.specs.declared.Fault.{Fault}
use Rattle.endings.specs.declared.Fault.TheVariants.{Usage, Files as FilesFault, Stopped}
use Rattle.endings.specs.Meanings.{Files, Meaning, Shelves}
use Rattle.endings.specs.Reports.{Streams, Output, AreAnswers, OrNoMemory, Served}
use Rattle.endings.specs.Endings.{Ended}
use Rattle.endings.specs.Notes.{AreAllNotes, Noted, AreNoted, IsNoted}
use Rattle.endings.proofs.Making.{lines-ended, lines-stopped}
use Rattle.endings.proofs.NotedClauses.{lines-noted, lines-noted-stop}
use Rattle.grammar_load.specs.Loaded.{GrammarTree}
use Rattle.command_files.specs.Grammars.{HasGrammar, LacksGrammar}
use Rattle.engine.specs.Speeches.{Speech, IsSpeechOf}
use Rattle.line_commands.specs.Lines.{LineAnswers, lines_meaning}
use Rattle.line_commands.specs.Answers.{Asked, IsAnswer}
use Rattle.line_commands.specs.Notes.{IsNote}
use Rattle.line_commands.specs.Parsing.{parse_meaning}

module _ (answers : GrammarTree → Speech → LineAnswers) (name : List ℕ) (settings : Option (List ℕ)) (verbose : Bool) (h : Shelves) (g : GrammarTree) (has : HasGrammar h.files name settings g) (o : Streams) (idle untouched : Type 0)
    (speech : Speech) (says : IsSpeechOf g speech) where
  pub served-ended : (refused : Bool) → Served (AreAnswers (answers g speech) 1) (AreAnswers (OrNoMemory (answers g speech)) 1) o (Ok refused) → Ended (lines_meaning answers name settings verbose) h o idle untouched (Ok refused)
  served-ended refused s =
      lines-ended (lines_meaning answers name settings verbose) h o idle untouched (AreAnswers (answers g speech) 1) (AreAnswers (OrNoMemory (answers g speech)) 1) refl
      (λ lines pieces refused r. (g, speech, has, says, r)) (λ lines pieces wanting r. (g, speech, has, says, r)) refused s

  pub served-stopped : (stop : Stop) → Served (AreAnswers (answers g speech) 1) (AreAnswers (OrNoMemory (answers g speech)) 1) o (Err stop) → Ended (lines_meaning answers name settings verbose) h o idle untouched (Err (Stopped stop))
  served-stopped stop s =
      lines-stopped (lines_meaning answers name settings verbose) h o idle untouched (AreAnswers (answers g speech) 1) (AreAnswers (OrNoMemory (answers g speech)) 1) refl
      (λ lines pieces refused r. (g, speech, has, says, r)) (λ lines pieces wanting r. (g, speech, has, says, r)) stop s

-- the same of `parse`, with its notes
module _ (name : List ℕ) (settings : Option (List ℕ)) (verbose : Bool) (asked : Asked) (h : Shelves) (g : GrammarTree) (has : HasGrammar h.files name settings g) (o : Streams) (idle untouched : Type 0)
    (speech : Speech) (says : IsSpeechOf g speech) where
  abbrev m : Meaning
  m = parse_meaning name settings verbose asked

  pub parsed-ended : (refused : Bool) → Served (AreAnswers (IsAnswer speech asked) 1) (AreAnswers (OrNoMemory (IsAnswer speech asked)) 1) o (Ok refused) → Ended (parse_meaning name settings verbose asked) h o idle untouched (Ok refused)
  parsed-ended refused s =
      lines-ended m h o idle untouched (AreAnswers (IsAnswer speech asked) 1) (AreAnswers (OrNoMemory (IsAnswer speech asked)) 1) refl
      (λ lines pieces refused r. (g, speech, has, says, r)) (λ lines pieces wanting r. (g, speech, has, says, r)) refused s

  pub parsed-stopped : (stop : Stop) → Served (AreAnswers (IsAnswer speech asked) 1) (AreAnswers (OrNoMemory (IsAnswer speech asked)) 1) o (Err stop) → Ended (parse_meaning name settings verbose asked) h o idle untouched (Err (Stopped stop))
  parsed-stopped stop s =
      lines-stopped m h o idle untouched (AreAnswers (IsAnswer speech asked) 1) (AreAnswers (OrNoMemory (IsAnswer speech asked)) 1) refl
      (λ lines pieces refused r. (g, speech, has, says, r)) (λ lines pieces wanting r. (g, speech, has, says, r)) stop s

  pub parsed-noted : (p : Output) (refused : Bool) → Noted (AreAllNotes (IsNote verbose speech asked)) o.left_old o.left_new p (Ok refused) → IsNoted (parse_meaning name settings verbose asked) h.files o.left_old o.left_new p (Ok refused)
  parsed-noted p refused n = lines-noted m h.files o.left_old o.left_new (AreAllNotes (IsNote verbose speech asked)) refl (λ gaps lines text r. (g, speech, has, says, r)) p refused n

  pub parsed-noted-stop : (p : Output) (stop : Stop) → Noted (AreAllNotes (IsNote verbose speech asked)) o.left_old o.left_new p (Err stop) → IsNoted (parse_meaning name settings verbose asked) h.files o.left_old o.left_new p (Err (Stopped stop))
  parsed-noted-stop p stop n = lines-noted-stop m h.files o.left_old o.left_new (AreAllNotes (IsNote verbose speech asked)) refl (λ gaps lines text r. (g, speech, has, says, r)) p stop n

-- where there is no grammar nothing is noted
pub lacking-noted : (m : Meaning) (files : Files) (left : Option (List ℕ)) (h : Shelves) (name : List ℕ) (settings : Option (List ℕ)) (verbose : Bool) (fault : Fault) → LacksGrammar h name settings verbose fault → AreNoted m files left left [] (Err fault)
lacking-noted m files left h name settings verbose (FilesFault text) l = refl
lacking-noted m files left h name settings verbose (Usage text) l = refl
lacking-noted m files left h name settings verbose (Stopped NoMemory) l = inl refl
lacking-noted m files left h name settings verbose (Stopped Read) l = absurd l
lacking-noted m files left h name settings verbose (Stopped TooLong) l = absurd l
lacking-noted m files left h name settings verbose (Stopped TooMany) l = absurd l
lacking-noted m files left h name settings verbose (Stopped Write) l = absurd l
lacking-noted m files left h name settings verbose (Stopped Gaps) l = absurd l
