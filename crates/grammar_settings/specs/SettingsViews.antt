-- What contracts see of settings.
use Rattle.std.specs.Prelude.{◌≡◌, ℕ, List, map, option_map, string_bytes, Vec, String, Result, Err}
use Rattle.std.specs.Global.{Global}
use Rattle.grammar_settings.specs.declared.settings.Settings.{Settings}
use Rattle.grammar_settings.specs.declared.settings.SortLine.{SortLine}
use Rattle.grammar_settings.specs.declared.settings.SettingsFault.{SettingsFault}
use Rattle.grammar_settings.specs.declared.settings.SettingsFault.TheVariants.{Line, NoMemory}
use Rattle.grammar_settings.specs.Forms.{Name}
use Rattle.grammar_settings.specs.Settled.{SettingsTree, SortTree}

abbrev pub sort_of : SortLine → SortTree
sort_of line = record { ty = string_bytes line.ty; letters = string_bytes line.letters }

abbrev pub names_in : Vec (String Global) Global → List Name
names_in v = map string_bytes v.items

abbrev pub settings_of : Settings → SettingsTree
settings_of s =
    record {
      top_type = string_bytes s.top_type;
      string_type = string_bytes s.string_type;
      list_type = string_bytes s.list_type;
      cons_type = string_bytes s.cons_type;
      null_type = string_bytes s.null_type;
      first = string_bytes s.first;
      rest = string_bytes s.rest;
      diff_list = string_bytes s.diff_list;
      diff_last = string_bytes s.diff_last;
      orth_path = map string_bytes s.orth_path.items;
      args_path = map string_bytes s.args_path.items;
      daughter_features = map string_bytes s.daughter_features.items;
      restrictors = map string_bytes s.restrictors.items;
      path_limit = s.path_limit;
      node_limit = s.node_limit;
      check_paths = map names_in s.check_paths.items;
      irregular_file = option_map string_bytes s.irregular_file;
      mrs_path = map string_bytes s.mrs_path.items;
      c_cont_path = map string_bytes s.c_cont_path.items;
      ltop_path = map string_bytes s.ltop_path.items;
      index_path = map string_bytes s.index_path.items;
      rels = string_bytes s.rels;
      hcons = string_bytes s.hcons;
      pred = string_bytes s.pred;
      lbl = string_bytes s.lbl;
      harg = string_bytes s.harg;
      larg = string_bytes s.larg;
      icons = string_bytes s.icons;
      iarg1 = string_bytes s.iarg1;
      iarg2 = string_bytes s.iarg2;
      cfrom = string_bytes s.cfrom;
      cto = string_bytes s.cto;
      skip_roles = map string_bytes s.skip_roles.items;
      skip_properties = map string_bytes s.skip_properties.items;
      sort = map sort_of s.sort.items;
      transfer_skip = map string_bytes s.transfer_skip.items;
    }

-- the fault names the line that what is said names
abbrev pub IsLineOf : {A : Type 0} → SettingsFault → Result A ℕ → Type 0
IsLineOf (Line line) said = said ≡ Err line
IsLineOf NoMemory said = ⊥
