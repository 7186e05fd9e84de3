-- An engine that is ready.
use Rattle.std.specs.Prelude.{◌≡◌}
use Rattle.grammar_load.specs.Conditions.{IsLoaded}
use Rattle.grammar_load.specs.Views.{grammar_of}
use Rattle.mrs_lines.specs.Fitting.{mrs_paths_of, IsWellNamed}
use Rattle.grammar_rules.specs.Lines.{AreShapesOf, AreFeedsOf}
use Rattle.grammar_rules.specs.Remembered.{IsMemoryOf}
use Rattle.mrs_places.specs.Paths.{paths_of}
use Rattle.engine.specs.declared.lent.Engine.{Engine}

-- Its signs are made of the book of its grammar, which is loaded; shapes and tables are made of the signs, and what lines share of both; its
-- paths are those at which the settings say that MRSs stand.
pub record IsReady (e : Engine) : Type 0 where
  pub book : e.signs.now.book ≡ e.grammar.now.book
  pub loaded : IsLoaded (grammar_of e.grammar.now)
  pub shapes : AreShapesOf e.signs.now e.shapes.now
  pub shared : IsMemoryOf e.signs.now e.shapes.now e.shared.now
  pub feeds : AreFeedsOf e.signs.now e.feeds.now
  pub paths : paths_of e.paths.now ≡ mrs_paths_of (grammar_of e.grammar.now)
  pub fits : IsWellNamed (grammar_of e.grammar.now)
