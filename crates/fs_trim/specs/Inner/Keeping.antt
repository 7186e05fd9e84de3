-- A unification, and what a cut keeps of it.
use Rattle.std.specs.Prelude.{Option, Some, None, length}
use Rattle.type_hierarchy.specs.Table.{count_of}
use Rattle.fs_model.specs.Sources.{Reader, Source, IsUnified}
use Rattle.fs_graph.specs.GraphMap.{GraphMap, IsGraph, reader_of}
use Rattle.fs_closing.specs.Rules.{Grammar, system_of}
use Rattle.fs_unify.specs.Entering.{IsGraphIn}
use Rattle.fs_unify.specs.Owing.{IsWellFormedBut}
use Rattle.tree_model.specs.Cuts.{Cut}
use Rattle.tree_model.specs.Views.{IsKeptOf}
use Rattle.fs_trim.specs.Cutting.{owed_of}

-- what the cut keeps, of which unification
pub record IsKeptUnifier (g : Grammar) (source : Source) (cut : Cut) (kept : GraphMap) : Type 0 where
  pub whole : Reader
  pub unified : IsUnified (system_of g) source (Some whole)
  pub keeps : IsKeptOf cut whole (reader_of kept)
  pub graph : IsGraph kept
  pub graph_in : IsGraphIn (count_of g.types) (length g.introducers) kept
  pub owes : IsWellFormedBut (system_of g) (reader_of kept) (owed_of cut)

abbrev pub KeepsUnified : Grammar → Source → Cut → Option GraphMap → Type 0
KeepsUnified g source cut None = IsUnified (system_of g) source None
KeepsUnified g source cut (Some kept) = IsKeptUnifier g source cut kept
