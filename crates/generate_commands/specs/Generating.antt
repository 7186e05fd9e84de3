-- What `generate` is to do: the MRSs that the lines of the input write are answered with the grammar of some files.
use Rattle.std.specs.Prelude.{ℕ, ◌≡◌, Bool, true, List, Option}
use Rattle.type_hierarchy.specs.Decls.{texts}
use Rattle.grammar_load.specs.Loaded.{GrammarTree}
use Rattle.mrs_places.specs.Paths.{Feature}
use Rattle.mrs_places.specs.Settled.{c_cont_said}
use Rattle.endings.specs.Meanings.{Meaning, Files, no_notes}
use Rattle.endings.specs.Reports.{AreAnswers, OrNoMemory}
use Rattle.command_files.specs.Grammars.{HasGrammar, IsFirstFault}
use Rattle.engine.specs.Speeches.{IsSpeechOf}
use Rattle.generate_commands.specs.Answers.{Speaker, Bounds, IsAnswer}

-- where the relations of a rule itself stand, by the settings of a grammar and its features
abbrev pub c_cont_of : GrammarTree → List Feature
c_cont_of g = c_cont_said (texts g.book.feats.items) g.settings

pub record IsSpeakerOf (g : GrammarTree) (s : Speaker) : Type 0 where
  pub speech : IsSpeechOf g s.speech
  pub c_cont_path : s.c_cont_path ≡ c_cont_of g

-- the grammar that some files say, as MRSs see it
abbrev pub HasSpeaker : Files → List ℕ → Option (List ℕ) → Speaker → Type 0
HasSpeaker files name settings s = (g : GrammarTree) × HasGrammar files name settings g × IsSpeakerOf g s

-- `generate`: the answers to the lines, one after the other; `verbose` says whether more is told of a fault of the files
abbrev pub generate_meaning : List ℕ → Option (List ℕ) → Bool → Bounds → Meaning
generate_meaning name settings verbose bounds = record {
  opens = true;
  reads = true;
  loadable = λ files. (g : GrammarTree) × HasGrammar files name settings g;
  first = IsFirstFault name settings verbose;
  report = λ files lines pieces refused. (s : Speaker) × HasSpeaker files name settings s × AreAnswers (IsAnswer s bounds) 1 lines pieces refused;
  with_gaps = λ files lines pieces wanting. (s : Speaker) × HasSpeaker files name settings s × AreAnswers (OrNoMemory (IsAnswer s bounds)) 1 lines pieces wanting;
  notes = no_notes;
}
