-- What an engine gives for `generate`, as the end of its run.
use Rattle.std.proofs.Common.{ℕ, List, Option, Bool, Ok, Err, refl}
use Rattle.endings.specs.declared.Stop.{Stop}
use Rattle.endings.specs.declared.Fault.TheVariants.{Stopped}
use Rattle.endings.specs.Meanings.{Shelves}
use Rattle.endings.specs.Reports.{Streams, AreAnswers, OrNoMemory}
use Rattle.endings.specs.Endings.{Ended}
use Rattle.endings.proofs.Making.{lines-ended, lines-stopped}
use Rattle.grammar_load.specs.Loaded.{GrammarTree}
use Rattle.command_files.specs.Grammars.{HasGrammar}
use Rattle.engine.specs.Speeches.{Speech, IsSpeechOf}
use Rattle.generate_commands.specs.Answers.{Bounds, IsAnswer}
use Rattle.generate_commands.specs.Generating.{generate_meaning, IsSpeakerOf}
use Rattle.generate_commands.specs.Contributing.{speaker_by}
use Rattle.generate_commands.specs.Inner.Contributing.{IsServedBy}

module _ (name : List ℕ) (settings : Option (List ℕ)) (verbose : Bool) (bounds : Bounds) (h : Shelves) (g : GrammarTree) (has : HasGrammar h.files name settings g) (o : Streams) (idle untouched : Type 0) (speech : Speech) (says : IsSpeechOf g speech) where
  speaks : IsSpeakerOf g (speaker_by g speech)
  speaks = record { speech = says; c_cont_path = refl }

  pub served-ended : (refused : Bool) → IsServedBy g speech bounds o (Ok refused) → Ended (generate_meaning name settings verbose bounds) h o idle untouched (Ok refused)
  served-ended refused s = lines-ended (generate_meaning name settings verbose bounds) h o idle untouched (AreAnswers (IsAnswer (speaker_by g speech) bounds) 1) (AreAnswers (OrNoMemory (IsAnswer (speaker_by g speech) bounds)) 1) refl (λ lines pieces refused r. (speaker_by g speech, (g, has, speaks), r)) (λ lines pieces wanting r. (speaker_by g speech, (g, has, speaks), r)) refused s

  pub served-stopped : (stop : Stop) → IsServedBy g speech bounds o (Err stop) → Ended (generate_meaning name settings verbose bounds) h o idle untouched (Err (Stopped stop))
  served-stopped stop s = lines-stopped (generate_meaning name settings verbose bounds) h o idle untouched (AreAnswers (IsAnswer (speaker_by g speech) bounds) 1) (AreAnswers (OrNoMemory (IsAnswer (speaker_by g speech) bounds)) 1) refl (λ lines pieces refused r. (speaker_by g speech, (g, has, speaks), r)) (λ lines pieces wanting r. (speaker_by g speech, (g, has, speaks), r)) stop s
