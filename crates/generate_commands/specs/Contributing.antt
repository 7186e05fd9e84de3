-- What the lexical trees and the rules of an engine's grammar contribute to MRSs, and what generates with them.
use Rattle.std.specs.Prelude.{ℕ, List, map}
use Rattle.chart_core.specs.Kept.{InRange}
use Rattle.mrs_places.specs.Paths.{Feature, feature_of, paths_of}
use Rattle.grammar_load.specs.Loaded.{GrammarTree}
use Rattle.mrs_generate.specs.declared.contributors.Contributors.{Contributors}
use Rattle.mrs_generate.specs.Contributors.{AreContributors}
use Rattle.engine.specs.Speeches.{Speech}
use Rattle.engine.specs.Ready.{IsReady as IsEngineReady}
use Rattle.engine.specs.Views.{speech_of}
use Rattle.engine.specs.declared.lent.Engine.{Engine}
use Rattle.generate_commands.specs.Answers.{Speaker, Bounds}
use Rattle.generate_commands.specs.Generating.{c_cont_of}
use Rattle.generate_commands.specs.Views.{bounds_with}
use Rattle.generate_commands.specs.declared.answering.Generator.{Generator}

-- the contributors of an engine's grammar, with the relations of rules at this path, and lexical trees of up to so many rules and one more
abbrev pub AreContributorsOf : Engine → List Feature → ℕ → Contributors → Type 0
AreContributorsOf e c_cont lexical c = AreContributors e.signs.now e.grammar.now.lexicon e.grammar.now.spelling (paths_of e.paths.now) c_cont lexical c

-- a grammar whose lines see it so, as MRSs see it
abbrev pub speaker_by : GrammarTree → Speech → Speaker
speaker_by g speech = record { speech = speech; c_cont_path = c_cont_of g }

-- the same of a generator, by its path to the relations of rules, and its bounds
abbrev pub speaker_of : Generator → Speaker
speaker_of p = record { speech = speech_of p.engine; c_cont_path = map feature_of p.c_cont.now }

abbrev pub bounds_of : Generator → Bounds
bounds_of p = bounds_with p.limits

-- its engine is ready, and its contributors are those of its grammar, up to its limit
pub record IsReady (p : Generator) : Type 0 where
  pub engine : IsEngineReady p.engine
  pub contributors : AreContributorsOf p.engine (map feature_of p.c_cont.now) p.limits.lexical p.contributors.now
  pub limits : InRange p.limits
