-- The settings of a grammar, and what a settings file makes of them.
use Rattle.std.specs.Prelude.{ℕ, List, [], ◌∷◌, map, filter, ◌==◌, length, Option, Some, None, unwrap_or, Result, Ok, Err, if◌then◌else◌, codes, encode_utf8_all}
use Rattle.std.specs.Str.{bytes_eq}
use Rattle.lkb_io.specs.Lines.{lines_of}
use Rattle.grammar_settings.specs.Forms.{Name, Word, name_of, path_of, limit_in, most_features, most_paths, is_among, written_types}
use Rattle.grammar_settings.specs.SettingsFiles.{Entry, entries_of, last_values, last_line, entries_from}

-- a sort of variables: a type, and the letters by which its variables are written
pub record SortTree : Type 0 where
  pub ty : Name
  pub letters : Name

-- One field for each name of a settings file. Types and features are in ASCII lower case.
pub record SettingsTree : Type 0 where
  pub top_type : Name
  pub string_type : Name
  pub list_type : Name
  pub cons_type : Name
  pub null_type : Name
  pub first : Name
  pub rest : Name
  pub diff_list : Name
  pub diff_last : Name
  pub orth_path : List Name
  pub args_path : List Name
  pub daughter_features : List Name
  pub restrictors : List Name
  pub path_limit : ℕ
  pub node_limit : ℕ
  pub check_paths : List (List Name)
  pub irregular_file : Option Name
  pub mrs_path : List Name
  pub c_cont_path : List Name
  pub ltop_path : List Name
  pub index_path : List Name
  pub rels : Name
  pub hcons : Name
  pub pred : Name
  pub lbl : Name
  pub harg : Name
  pub larg : Name
  pub icons : Name
  pub iarg1 : Name
  pub iarg2 : Name
  pub cfrom : Name
  pub cto : Name
  pub skip_roles : List Name
  pub skip_properties : List Name
  pub sort : List SortTree
  pub transfer_skip : List Name

-- the values of a name's last line
abbrev pub given : Name → List Entry → Option (List Word)
given name es = last_values None (entries_of name es)

-- the value of a name that has one, or its default
abbrev pub word_or : Name → Option (List Word) → Name
word_or default (Some (v ∷ vs)) = name_of v
word_or default _ = default

abbrev pub path_or : List Name → Option (List Word) → List Name
path_or default (Some (v ∷ vs)) = path_of v
path_or default _ = default

abbrev pub words_or : List Name → Option (List Word) → List Name
words_or default (Some vs) = map name_of vs
words_or default None = default

abbrev pub limit_or : (most default : ℕ) → Option (List Word) → ℕ
limit_or most default (Some (v ∷ vs)) = unwrap_or (limit_in most v) default
limit_or most default _ = default

abbrev pub paths_of : Option (List Word) → List (List Name)
paths_of (Some vs) = map path_of vs
paths_of None = []

-- a file's name is kept as it is written
abbrev pub file_of : Option (List Word) → Option Name
file_of (Some (v ∷ vs)) = Some (encode_utf8_all v)
file_of _ = None

abbrev pub sort_in : List Word → SortTree
sort_in (t ∷ letters ∷ vs) = record { ty = name_of t; letters = encode_utf8_all letters }
sort_in _ = record { ty = []; letters = [] }

abbrev pub default_sort : Name → Name → SortTree
default_sort ty letters = record { ty = ty; letters = letters }

abbrev pub default_sorts : List SortTree
default_sorts =
    default_sort (codes "handle") (codes "h") ∷ default_sort (codes "event") (codes "e") ∷ default_sort (codes "ref-ind") (codes "x")
    ∷ default_sort (codes "individual") (codes "i") ∷ []

-- the lines of sorts add up; where there is none the defaults hold
abbrev pub sorts_of : List Entry → List SortTree
sorts_of es = if length es == 0 then default_sorts else map (λ e. sort_in e.values) es

-- What entries make of the settings: a name has the values of its last line, and its default where it has no line.
abbrev pub settings_by : List Entry → SettingsTree
settings_by es =
    record {
      top_type = word_or (codes "*top*") (given (codes "top-type") es);
      string_type = word_or (codes "string") (given (codes "string-type") es);
      list_type = word_or (codes "list") (given (codes "list-type") es);
      cons_type = word_or (codes "cons") (given (codes "cons-type") es);
      null_type = word_or (codes "null") (given (codes "null-type") es);
      first = word_or (codes "first") (given (codes "first") es);
      rest = word_or (codes "rest") (given (codes "rest") es);
      diff_list = word_or (codes "list") (given (codes "diff-list") es);
      diff_last = word_or (codes "last") (given (codes "diff-last") es);
      orth_path = path_or (codes "stem" ∷ []) (given (codes "orth-path") es);
      args_path = path_or (codes "args" ∷ []) (given (codes "args-path") es);
      daughter_features = words_or (codes "args" ∷ []) (given (codes "daughter-features") es);
      restrictors = words_or (codes "cont" ∷ codes "c-cont" ∷ codes "stem" ∷ []) (given (codes "restrictors") es);
      path_limit = limit_or most_features 255 (given (codes "path-limit") es);
      node_limit = limit_or most_paths 100000 (given (codes "node-limit") es);
      check_paths = paths_of (given (codes "check-paths") es);
      irregular_file = file_of (given (codes "irregular-file") es);
      mrs_path = path_or (codes "synsem" ∷ codes "local" ∷ codes "cont" ∷ []) (given (codes "mrs-path") es);
      c_cont_path = path_or (codes "c-cont" ∷ []) (given (codes "c-cont-path") es);
      ltop_path = path_or (codes "hook" ∷ codes "ltop" ∷ []) (given (codes "ltop-path") es);
      index_path = path_or (codes "hook" ∷ codes "index" ∷ []) (given (codes "index-path") es);
      rels = word_or (codes "rels") (given (codes "rels") es);
      hcons = word_or (codes "hcons") (given (codes "hcons") es);
      pred = word_or (codes "pred") (given (codes "pred") es);
      lbl = word_or (codes "lbl") (given (codes "lbl") es);
      harg = word_or (codes "harg") (given (codes "harg") es);
      larg = word_or (codes "larg") (given (codes "larg") es);
      icons = word_or (codes "icons") (given (codes "icons") es);
      iarg1 = word_or (codes "iarg1") (given (codes "iarg1") es);
      iarg2 = word_or (codes "iarg2") (given (codes "iarg2") es);
      cfrom = word_or (codes "cfrom") (given (codes "cfrom") es);
      cto = word_or (codes "cto") (given (codes "cto") es);
      skip_roles = words_or (codes "lnk" ∷ codes "wlink" ∷ codes "cfrom" ∷ codes "cto" ∷ []) (given (codes "skip-roles") es);
      skip_properties = words_or (codes "instloc" ∷ []) (given (codes "skip-properties") es);
      sort = sorts_of (entries_of (codes "sort") es);
      transfer_skip = words_or ([]) (given (codes "transfer-skip") es);
    }

-- Where the top type and the string type are one, the last line that gives either is outside the form.
abbrev pub settled : List Entry → Result SettingsTree ℕ
settled es =
    if bytes_eq (settings_by es).top_type (settings_by es).string_type
    then Err (last_line 0 (filter (λ e. is_among written_types e.name) es))
    else Ok (settings_by es)

abbrev pub settled_by : Result (List Entry) ℕ → Result SettingsTree ℕ
settled_by (Err n) = Err n
settled_by (Ok es) = settled es

-- What a settings file says: the settings, or the number of the first line that is outside the form.
abbrev pub settings_in : List ℕ → Result SettingsTree ℕ
settings_in bytes = settled_by (entries_from 1 (lines_of bytes))

-- the settings without a file
abbrev pub default_settings : SettingsTree
default_settings = settings_by []
