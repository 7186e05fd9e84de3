-- What contracts see of what is asked, and of what answers.
use Rattle.std.specs.Prelude.{◌≡◌, Bool}
use Rattle.chart_core.specs.declared.Limits as declared
use Rattle.packed_items.specs.Answers.{limits_in}
use Rattle.tree_names.specs.TreeGrammars.{tree_grammar}
use Rattle.engine.specs.Ready.{IsReady}
use Rattle.engine.specs.Views.{speech_of}
use Rattle.line_commands.specs.Answers.{Asked}
use Rattle.line_commands.specs.declared.explainer.Explainer.{Explainer}

-- what is asked under these limits
abbrev pub asked_with : declared.Limits → Bool → Bool → Asked
asked_with limits lattice mrs = record { limits = limits_in limits; lexical = limits.lexical; lattice = lattice; mrs = mrs }

-- Its engine is ready, and its trees are written over the names of the engine's instances.
pub record IsReadyToExplain (x : Explainer) : Type 0 where
  pub engine : IsReady x.engine
  pub names : x.names ≡ tree_grammar (speech_of x.engine).signs (speech_of x.engine).names
