-- What the expansion of a grammar's statements gives (Copestake 2002: constraints of types, and instances).
use Rattle.std.specs.Prelude.{ℕ, ◌≡◌, List, map, option_map, position, Option, Some}
use Rattle.std.specs.List.{AllZip, range_with_len}
use Rattle.std.specs.Str.{bytes_eq}
use Rattle.tdl_reader.specs.declared.Status.{Status}
use Rattle.fs_model.specs.Claims.{IsBare}
use Rattle.fs_model.specs.Sources.{IsUnified}
use Rattle.type_hierarchy.specs.Decls.{Name, texts}
use Rattle.type_hierarchy.specs.Named.{type_named}
use Rattle.type_hierarchy.specs.Table.{TypeTable, completed_count}
use Rattle.fs_graph.specs.GraphMap.{GraphMap, reader_of}
use Rattle.fs_unify.specs.Rules.{Grammar, IsGrammar, system_of}
use Rattle.fs_unify.specs.Given.{facts_source}
use Rattle.fs_unify.specs.Placing.{IsAnswerIn}
use Rattle.body_facts.specs.Claimed.{WordTable}
use Rattle.constraint_expand.specs.declared.books.Book.{Book}
use Rattle.constraint_expand.specs.declared.books.BookNames.{BookNames}
use Rattle.constraint_expand.specs.declared.books.Instance.{Instance}
use Rattle.grammar_files.specs.Placings.{PlacedTree}
use Rattle.constraint_expand.specs.Statements.{instances_in, IsNowhere}
use Rattle.constraint_expand.specs.Systems.{Settled, IsSystemOf, constraint_claims, instance_claims, words_of}
use Rattle.constraint_expand.specs.Unknowns.{NamesUnknown}
use Rattle.constraint_expand.specs.Faults.{HasNoStructure}

-- what settings name, as numbers: none for what the grammar doesn't have
pub record Numbered : Type 0 where
  pub list : Option ℕ
  pub cons : Option ℕ
  pub null : Option ℕ
  pub first : Option ℕ
  pub rest : Option ℕ
  pub diff_list : Option ℕ
  pub diff_last : Option ℕ
  pub args_path : List (Option ℕ)
  pub daughter_features : List (Option ℕ)
  pub restrictors : List (Option ℕ)
  pub check_paths : List (List (Option ℕ))
  pub path_limit : ℕ

abbrev pub numbered_of : BookNames → Numbered
numbered_of n =
    record {
      list = option_map (λ t. t.0) n.list;
      cons = option_map (λ t. t.0) n.cons;
      null = option_map (λ t. t.0) n.null;
      first = option_map (λ f. f.0) n.first;
      rest = option_map (λ f. f.0) n.rest;
      diff_list = option_map (λ f. f.0) n.diff_list;
      diff_last = option_map (λ f. f.0) n.diff_last;
      args_path = map (option_map (λ f. f.0)) n.args_path.items;
      daughter_features = map (option_map (λ f. f.0)) n.daughter_features.items;
      restrictors = map (option_map (λ f. f.0)) n.restrictors.items;
      check_paths = map (λ p. map (option_map (λ f. f.0)) p.items) n.check_paths.items;
      path_limit = n.path_limit;
    }

-- the number of a feature's name
abbrev pub feature_named : List Name → Name → Option ℕ
feature_named feats n = position (bytes_eq n) feats

abbrev pub numbered_in : TypeTable → List Name → Settled → Numbered
numbered_in types feats s =
    record {
      list = type_named types s.lists.list;
      cons = type_named types s.lists.cons;
      null = type_named types s.lists.null;
      first = feature_named feats s.lists.first;
      rest = feature_named feats s.lists.rest;
      diff_list = feature_named feats s.lists.diff_list;
      diff_last = feature_named feats s.lists.diff_last;
      args_path = map (feature_named feats) s.args_path;
      daughter_features = map (feature_named feats) s.daughter_features;
      restrictors = map (feature_named feats) s.restrictors;
      check_paths = map (map (feature_named feats)) s.check_paths;
      path_limit = s.path_limit;
    }

-- an instance with what it is and its structure
pub record InstanceMap : Type 0 where
  pub status : Status
  pub structure : GraphMap

abbrev pub instance_of : Instance → InstanceMap
instance_of i = record { status = i.status; structure = i.structure }

-- an instance has its definition's status and the structure of what its body says, by a table of words
pub record IsInstanceBy (g : Grammar) (w : WordTable) (p : PlacedTree) (i : InstanceMap) : Type 0 where
  pub status : i.status ≡ p.status
  pub structure : IsUnified (system_of g) (facts_source (instance_claims w p)) (Some (reader_of i.structure))
  pub answer : IsAnswerIn g i.structure

-- that of the grammar's own types and features, and of the names of lists that are settled
abbrev pub IsInstanceOf : Grammar → Settled → List Name → PlacedTree → InstanceMap → Type 0
IsInstanceOf g s feats = IsInstanceBy g (words_of g.types s.lists feats)

-- the structure of a type's constraint
pub record IsConstraintOf (g : Grammar) (t : ℕ) (graph : GraphMap) : Type 0 where
  pub structure : IsUnified (system_of g) (facts_source (constraint_claims t)) (Some (reader_of graph))
  pub answer : IsAnswerIn g graph

-- the constraint of each completed type, by number
abbrev pub AreConstraints : Grammar → List GraphMap → Type 0
AreConstraints g graphs = AllZip (IsConstraintOf g) (range_with_len 0 (completed_count g.types)) graphs

-- the instances in order of place
abbrev pub AreInstances : Grammar → Settled → List Name → List PlacedTree → List InstanceMap → Type 0
AreInstances g s feats ps instances = AllZip (IsInstanceOf g s feats) (instances_in ps) instances

-- What the statements of a grammar expand to, where no definition lacks a structure.
pub record IsBookOf (types : TypeTable) (s : Settled) (ps : List PlacedTree) (b : Book) : Type 0 where
  pub known : IsNowhere ps (NamesUnknown types s.lists ps)
  pub system : IsSystemOf types s ps (texts b.feats.items) b.system
  pub in_range : IsGrammar b.system
  pub bare : IsBare (system_of b.system)
  pub shaped : IsNowhere ps (HasNoStructure b.system s (texts b.feats.items))
  pub constraints : AreConstraints b.system b.constraints.items
  pub instances : AreInstances b.system s (texts b.feats.items) ps (map instance_of b.instances.items)
  pub names : numbered_of b.names ≡ numbered_in types (texts b.feats.items) s
