-- What leaves and rules contribute, and what the MRS of a full structure is to be.
use Rattle.std.specs.Prelude.{ℕ, Option, Some, None, List, slice_get}
use Rattle.fs_model.specs.Claims.{Claim, System}
use Rattle.fs_model.specs.Sources.{Told}
use Rattle.fs_model.specs.Closure.{Closure}
use Rattle.fs_graph.specs.GraphMap.{GraphMap, reader_of, IsGraph}
use Rattle.type_hierarchy.specs.Table.{TypeTable}
use Rattle.tree_model.specs.Structures.{Structure}
use Rattle.tree_model.specs.Views.{Shows}
use Rattle.tree_model.specs.Mothers.{Meant}
use Rattle.tree_model.specs.Signs.{Signs, Instance, rule_system}
use Rattle.mrs_model.specs.Meanings.{Meaning}
use Rattle.mrs_model.specs.Renaming.{AreEqual}
use Rattle.mrs_places.specs.Paths.{Feature, Paths}
use Rattle.mrs_extract.specs.Extraction.{HasMrs}
use Rattle.generate_model.specs.Bags.{Word, preds_of}
use Rattle.generate_model.specs.Contributing.{Predicates}
use Rattle.generate_model.specs.Realizations.{Asked}

-- what is generated from: an MRS, and where the settings of a grammar say that MRSs and the relations of rules stand
pub record Input : Type 0 where
  pub types : TypeTable
  pub paths : Paths
  pub c_cont_path : List Feature
  pub meaning : Meaning

-- the graph of a closure
pub record IsGraphOf (s : System) (claims : Claim → Type 0) (graph : GraphMap) : Type 0 where
  pub graph_is : IsGraph graph
  pub shows : Shows s claims (reader_of graph)

-- the predicates in RELS at a path of a closure
pub record SaysAt (s : System) (input : Input) (claims : Claim → Type 0) (base : List Feature) (ws : List Word) : Type 0 where
  pub graph : GraphMap
  pub is : IsGraphOf s claims graph
  pub says : Predicates graph input.types input.paths base ws

-- a leaf of this full structure contributes those at the path of MRSs
abbrev pub Contribution : Signs → Input → Structure → List Word → Type 0
Contribution g input f ws = SaysAt g.system input (Meant (rule_system g) f) input.paths.mrs_path ws

-- a rule contributes those that its own structure has at a path of the settings
abbrev pub GivesOf : Signs → Input → Option Instance → List Word → Type 0
GivesOf g input None ws = ⊥
GivesOf g input (Some i) ws = SaysAt g.system input (Closure g.system (Told i.rule.facts)) input.c_cont_path ws

abbrev pub OwnContribution : Signs → Input → ℕ → List Word → Type 0
OwnContribution g input rule ws = GivesOf g input (slice_get g.instances rule) ws

-- the MRS of a full structure is the input's, up to renamed variables
pub record Means (g : Signs) (input : Input) (f : Structure) : Type 0 where
  pub graph : GraphMap
  pub is : IsGraphOf g.system (Meant (rule_system g) f) graph
  pub mrs : Meaning
  pub has : HasMrs graph input.types input.paths mrs
  pub equal : AreEqual mrs input.meaning

-- what an input asks for
abbrev pub asked_of : Signs → Input → Asked
asked_of g input = record { bag = preds_of input.meaning; means = Means g input; says = Contribution g input; gives = OwnContribution g input }
