-- What the settings of a grammar say of MRSs, by the types and features that the grammar has.
use Rattle.std.specs.Prelude.{ℕ, Option, List, map, position}
use Rattle.std.specs.Str.{bytes_eq}
use Rattle.type_hierarchy.specs.Decls.{Name}
use Rattle.type_hierarchy.specs.Named.{type_named}
use Rattle.type_hierarchy.specs.Table.{TypeTable}
use Rattle.grammar_settings.specs.Settled.{SettingsTree, SortTree}
use Rattle.mrs_places.specs.Paths.{Feature, Sort, Paths}

-- the number of a feature's name, where the grammar has it
abbrev pub feature_named : List Name → Name → Option ℕ
feature_named feats n = position (bytes_eq n) feats

-- a feature of the settings
abbrev pub feature_said : List Name → Name → Feature
feature_said feats n = record { name = n; number = feature_named feats n }

-- a line of the setting `sort`
abbrev pub sort_said : TypeTable → SortTree → Sort
sort_said types s = record { ty = type_named types s.ty; letters = s.letters }

-- paths, names of lists, sorts and skips as the settings have them
abbrev pub paths_said : TypeTable → List Name → SettingsTree → Paths
paths_said types feats s =
    record {
      mrs_path = map (feature_said feats) s.mrs_path;
      ltop_path = map (feature_said feats) s.ltop_path;
      index_path = map (feature_said feats) s.index_path;
      string_type = s.string_type;
      cons = type_named types s.cons_type;
      null = type_named types s.null_type;
      first = feature_said feats s.first;
      rest = feature_said feats s.rest;
      diff_list = feature_said feats s.diff_list;
      diff_last = feature_said feats s.diff_last;
      rels = feature_said feats s.rels;
      hcons = feature_said feats s.hcons;
      pred = feature_said feats s.pred;
      lbl = feature_said feats s.lbl;
      harg = feature_said feats s.harg;
      larg = feature_said feats s.larg;
      icons = feature_said feats s.icons;
      iarg1 = feature_said feats s.iarg1;
      iarg2 = feature_said feats s.iarg2;
      cfrom = feature_said feats s.cfrom;
      cto = feature_said feats s.cto;
      skip_roles = map (feature_said feats) s.skip_roles;
      skip_properties = map (feature_said feats) s.skip_properties;
      sorts = map (sort_said types) s.sort;
      feats = feats;
    }

-- where the relations of a rule itself stand, by the setting `c-cont-path`
abbrev pub c_cont_said : List Name → SettingsTree → List Feature
c_cont_said feats s = map (feature_said feats) s.c_cont_path
