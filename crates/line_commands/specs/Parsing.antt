-- What `parse` is to do: the lines of the input are answered with the grammar of some files.
use Rattle.std.specs.Prelude.{ℕ, List, Option, Bool}
use Rattle.endings.specs.Meanings.{Files, Meaning}
use Rattle.endings.specs.Notes.{AreAllNotes}
use Rattle.grammar_load.specs.Loaded.{GrammarTree}
use Rattle.command_files.specs.Grammars.{HasGrammar}
use Rattle.engine.specs.Speeches.{Speech, IsSpeechOf}
use Rattle.line_commands.specs.Lines.{lines_meaning}
use Rattle.line_commands.specs.Answers.{Asked, IsAnswer}
use Rattle.line_commands.specs.Notes.{IsNote}

-- the notes on the lines, by the grammar of some files; the last flag is whether memory may have been wanting for the answers to some
abbrev pub ParseNotes : List ℕ → Option (List ℕ) → Bool → Asked → Files → Bool → List (List ℕ) → List ℕ → Type 0
ParseNotes name settings verbose asked files gaps lines text =
    (g : GrammarTree) × (speech : Speech) × HasGrammar files name settings g × IsSpeechOf g speech × AreAllNotes (IsNote verbose speech asked) gaps lines text

-- `parse`: the answers to the lines, one after the other, and the notes on them where more is to be told
abbrev pub parse_meaning : List ℕ → Option (List ℕ) → Bool → Asked → Meaning
parse_meaning name settings verbose asked = record (lines_meaning (λ g speech. IsAnswer speech asked) name settings verbose) { notes = ParseNotes name settings verbose asked }
