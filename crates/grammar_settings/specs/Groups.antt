-- What the parts of the settings are made of.
use Rattle.std.specs.Prelude.{◌≡◌, List, [], ◌∷◌, map, option_map, string_bytes, codes}
use Rattle.grammar_settings.specs.SettingsFiles.{Entry, entries_of}
use Rattle.grammar_settings.specs.Forms.{most_features, most_paths}
use Rattle.grammar_settings.specs.Settled.{given, word_or, path_or, words_or, limit_or, paths_of, file_of, sorts_of}
use Rattle.grammar_settings.specs.SettingsViews.{names_in, sort_of}
use Rattle.grammar_settings.specs.declared.build.TypeNames.{TypeNames}
use Rattle.grammar_settings.specs.declared.build.ListFeatures.{ListFeatures}
use Rattle.grammar_settings.specs.declared.build.GrammarPaths.{GrammarPaths}
use Rattle.grammar_settings.specs.declared.build.MrsPaths.{MrsPaths}
use Rattle.grammar_settings.specs.declared.build.RelationFeatures.{RelationFeatures}
use Rattle.grammar_settings.specs.declared.build.Skips.{Skips}

pub record AreTypeNames (es : List Entry) (g : TypeNames) : Type 0 where
  pub top_type_is : string_bytes g.top_type ≡ word_or (codes "*top*") (given (codes "top-type") es)
  pub string_type_is : string_bytes g.string_type ≡ word_or (codes "string") (given (codes "string-type") es)
  pub list_type_is : string_bytes g.list_type ≡ word_or (codes "list") (given (codes "list-type") es)
  pub cons_type_is : string_bytes g.cons_type ≡ word_or (codes "cons") (given (codes "cons-type") es)
  pub null_type_is : string_bytes g.null_type ≡ word_or (codes "null") (given (codes "null-type") es)

pub record AreListFeatures (es : List Entry) (g : ListFeatures) : Type 0 where
  pub first_is : string_bytes g.first ≡ word_or (codes "first") (given (codes "first") es)
  pub rest_is : string_bytes g.rest ≡ word_or (codes "rest") (given (codes "rest") es)
  pub diff_list_is : string_bytes g.diff_list ≡ word_or (codes "list") (given (codes "diff-list") es)
  pub diff_last_is : string_bytes g.diff_last ≡ word_or (codes "last") (given (codes "diff-last") es)

pub record AreGrammarPaths (es : List Entry) (g : GrammarPaths) : Type 0 where
  pub orth_path_is : map string_bytes g.orth_path.items ≡ path_or (codes "stem" ∷ []) (given (codes "orth-path") es)
  pub args_path_is : map string_bytes g.args_path.items ≡ path_or (codes "args" ∷ []) (given (codes "args-path") es)
  pub daughter_features_is : map string_bytes g.daughter_features.items ≡ words_or (codes "args" ∷ []) (given (codes "daughter-features") es)
  pub restrictors_is : map string_bytes g.restrictors.items ≡ words_or (codes "cont" ∷ codes "c-cont" ∷ codes "stem" ∷ []) (given (codes "restrictors") es)
  pub path_limit_is : g.path_limit ≡ limit_or most_features 255 (given (codes "path-limit") es)
  pub node_limit_is : g.node_limit ≡ limit_or most_paths 100000 (given (codes "node-limit") es)
  pub check_paths_is : map names_in g.check_paths.items ≡ paths_of (given (codes "check-paths") es)
  pub irregular_file_is : option_map string_bytes g.irregular_file ≡ file_of (given (codes "irregular-file") es)

pub record AreMrsPaths (es : List Entry) (g : MrsPaths) : Type 0 where
  pub mrs_path_is : map string_bytes g.mrs_path.items ≡ path_or (codes "synsem" ∷ codes "local" ∷ codes "cont" ∷ []) (given (codes "mrs-path") es)
  pub c_cont_path_is : map string_bytes g.c_cont_path.items ≡ path_or (codes "c-cont" ∷ []) (given (codes "c-cont-path") es)
  pub ltop_path_is : map string_bytes g.ltop_path.items ≡ path_or (codes "hook" ∷ codes "ltop" ∷ []) (given (codes "ltop-path") es)
  pub index_path_is : map string_bytes g.index_path.items ≡ path_or (codes "hook" ∷ codes "index" ∷ []) (given (codes "index-path") es)
  pub rels_is : string_bytes g.rels ≡ word_or (codes "rels") (given (codes "rels") es)
  pub hcons_is : string_bytes g.hcons ≡ word_or (codes "hcons") (given (codes "hcons") es)

pub record AreRelationFeatures (es : List Entry) (g : RelationFeatures) : Type 0 where
  pub pred_is : string_bytes g.pred ≡ word_or (codes "pred") (given (codes "pred") es)
  pub lbl_is : string_bytes g.lbl ≡ word_or (codes "lbl") (given (codes "lbl") es)
  pub harg_is : string_bytes g.harg ≡ word_or (codes "harg") (given (codes "harg") es)
  pub larg_is : string_bytes g.larg ≡ word_or (codes "larg") (given (codes "larg") es)
  pub icons_is : string_bytes g.icons ≡ word_or (codes "icons") (given (codes "icons") es)
  pub iarg1_is : string_bytes g.iarg1 ≡ word_or (codes "iarg1") (given (codes "iarg1") es)
  pub iarg2_is : string_bytes g.iarg2 ≡ word_or (codes "iarg2") (given (codes "iarg2") es)
  pub cfrom_is : string_bytes g.cfrom ≡ word_or (codes "cfrom") (given (codes "cfrom") es)
  pub cto_is : string_bytes g.cto ≡ word_or (codes "cto") (given (codes "cto") es)

pub record AreSkips (es : List Entry) (g : Skips) : Type 0 where
  pub skip_roles_is : map string_bytes g.skip_roles.items ≡ words_or (codes "lnk" ∷ codes "wlink" ∷ codes "cfrom" ∷ codes "cto" ∷ []) (given (codes "skip-roles") es)
  pub skip_properties_is : map string_bytes g.skip_properties.items ≡ words_or (codes "instloc" ∷ []) (given (codes "skip-properties") es)
  pub sort_is : map sort_of g.sort.items ≡ sorts_of (entries_of (codes "sort") es)
  pub transfer_skip_is : map string_bytes g.transfer_skip.items ≡ words_or ([]) (given (codes "transfer-skip") es)
