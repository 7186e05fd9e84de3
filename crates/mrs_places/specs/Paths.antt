-- Where the MRS of a structure stands: paths, names, sorts and skips of the settings, as plain values.
use Rattle.std.specs.Prelude.{ℕ, Option, List, map, option_map}
use Rattle.std.specs.String.{string_bytes}
use Rattle.mrs_places.specs.declared.paths.MrsFeat.{MrsFeat}
use Rattle.mrs_places.specs.declared.paths.MrsSort.{MrsSort}
use Rattle.mrs_places.specs.declared.paths.MrsPaths.{MrsPaths}

-- a feature by its name, and by its number where the grammar has it
pub record Feature : Type 0 where
  pub name : List ℕ
  pub number : Option ℕ

-- a line of the setting `sort`: a type, where the grammar has it, and letters
pub record Sort : Type 0 where
  pub ty : Option ℕ
  pub letters : List ℕ

pub record Paths : Type 0 where
  pub mrs_path : List Feature
  pub ltop_path : List Feature
  pub index_path : List Feature
  pub string_type : List ℕ
  pub cons : Option ℕ
  pub null : Option ℕ
  pub first : Feature
  pub rest : Feature
  pub diff_list : Feature
  pub diff_last : Feature
  pub rels : Feature
  pub hcons : Feature
  pub pred : Feature
  pub lbl : Feature
  pub harg : Feature
  pub larg : Feature
  pub icons : Feature
  pub iarg1 : Feature
  pub iarg2 : Feature
  pub cfrom : Feature
  pub cto : Feature
  pub skip_roles : List Feature
  pub skip_properties : List Feature
  pub sorts : List Sort
  pub feats : List (List ℕ)

abbrev pub feature_of : MrsFeat → Feature
feature_of f = record { name = string_bytes f.name; number = option_map (λ n. n.0) f.feat }

abbrev pub sort_line_of : MrsSort → Sort
sort_line_of s = record { ty = option_map (λ t. t.0) s.ty; letters = string_bytes s.letters }

abbrev pub paths_of : MrsPaths → Paths
paths_of p = record {
  mrs_path = map feature_of p.mrs_path.items;
  ltop_path = map feature_of p.ltop_path.items;
  index_path = map feature_of p.index_path.items;
  string_type = string_bytes p.string_type;
  cons = option_map (λ t. t.0) p.cons;
  null = option_map (λ t. t.0) p.null;
  first = feature_of p.first;
  rest = feature_of p.rest;
  diff_list = feature_of p.diff_list;
  diff_last = feature_of p.diff_last;
  rels = feature_of p.rels;
  hcons = feature_of p.hcons;
  pred = feature_of p.pred;
  lbl = feature_of p.lbl;
  harg = feature_of p.harg;
  larg = feature_of p.larg;
  icons = feature_of p.icons;
  iarg1 = feature_of p.iarg1;
  iarg2 = feature_of p.iarg2;
  cfrom = feature_of p.cfrom;
  cto = feature_of p.cto;
  skip_roles = map feature_of p.skip_roles.items;
  skip_properties = map feature_of p.skip_properties.items;
  sorts = map sort_line_of p.sorts.items;
  feats = map string_bytes p.feats.items;
}
