-- What is made of a grammar, and what is asked of it, as the calls want them.
use Rattle.std.specs.Prelude.{map}
use Rattle.chart_core.specs.Kept.{InRange}
use Rattle.morph_analysis.specs.Lattices.{IsValid}
use Rattle.morph_analysis.specs.LatticeViews.{lattice_of}
use Rattle.mrs_model.specs.Valid.{IsValid as IsValidMrs}
use Rattle.mrs_model.specs.Views.{meaning_of}
use Rattle.mrs_places.specs.Paths.{feature_of, paths_of}
use Rattle.mrs_generate.specs.Contributors.{AreContributors}
use Rattle.engine.specs.Ready.{IsReady as IsEngineReady}
use Rattle.engine.specs.Semantic.{ArePathsOf}
use Rattle.rows.specs.declared.grammars.Ready.{Ready}
use Rattle.rows.specs.declared.answers.Asked.{Asked}
use Rattle.rows.specs.declared.answers.Asked.TheVariants.{Line, Mrs}

-- the engine is ready, and contributors and paths are those of its signs
pub record IsReady (r : Ready) : Type 0 where
  pub limits : InRange r.limits
  pub engine : IsEngineReady r.engine
  pub paths : ArePathsOf r.engine.signs.now (paths_of r.engine.paths.now)
  pub contributors : AreContributors r.engine.signs.now r.engine.grammar.now.lexicon r.engine.grammar.now.spelling (paths_of r.engine.paths.now) (map feature_of r.c_cont.now) r.limits.lexical r.contributors.now

-- a valid lattice or a valid MRS
unfoldable pub IsFit : Asked → Type 0
IsFit (Line lattice) = IsValid (lattice_of lattice.now)
IsFit (Mrs mrs) = IsValidMrs (meaning_of mrs.now)
