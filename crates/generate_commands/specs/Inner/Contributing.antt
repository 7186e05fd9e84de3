-- What comes of all lines with an engine's grammar.
use Rattle.std.specs.Prelude.{Bool, Result}
use Rattle.grammar_load.specs.Loaded.{GrammarTree}
use Rattle.endings.specs.declared.Stop.{Stop}
use Rattle.endings.specs.Reports.{AreAnswers, OrNoMemory, Streams, Served}
use Rattle.engine.specs.Speeches.{Speech}
use Rattle.generate_commands.specs.Answers.{Bounds, IsAnswer}
use Rattle.generate_commands.specs.Contributing.{speaker_by}

-- the answers to all lines, with such a grammar
abbrev pub IsServedBy : GrammarTree → Speech → Bounds → Streams → Result Bool Stop → Type 0
IsServedBy g speech bounds o end = Served (AreAnswers (IsAnswer (speaker_by g speech) bounds) 1) (AreAnswers (OrNoMemory (IsAnswer (speaker_by g speech) bounds)) 1) o end
