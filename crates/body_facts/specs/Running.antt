-- What is told so far of a statement's body, and what a saying adds to it.
use Rattle.std.specs.Prelude.{ℕ, if◌then◌else◌, Option, Some, None, List, [], ◌∷◌, ◌++◌, map, unwrap_or, is_some, String, Vec}
use Rattle.std.specs.Global.{Global}
use Rattle.std.specs.Str.{bytes_eq}
use Rattle.std.specs.String.{string_bytes}
use Rattle.tdl_reader.specs.Trees.{TermTree, BodyTree, AttrTrees, ItemTrees, RestTree}
use Rattle.type_hierarchy.specs.Decls.{Name, number_of}
use Rattle.type_hierarchy.specs.Table.{TypeTable}
use Rattle.fs_model.specs.Claims.{Path, Claim, exists_at, same, below}
use Rattle.fs_graph.specs.declared.facts.Feat.{Feat}
use Rattle.fs_graph.specs.Facts.{path_of, claims_of}
use Rattle.body_facts.specs.Sayings.{Saying, has_type, has_text, carries, is_there, are_equal, term_says, body_says, attrs_say, items_say, end_says}
use Rattle.body_facts.specs.Claimed.{WordTable}
use Rattle.body_facts.specs.Numbers.{type_number, text_number}
use Rattle.body_facts.specs.Writing.{past_items}
use Rattle.body_facts.specs.declared.telling.Told.{Told}

-- a coreference and the first path that carries it
pub record Carrier : Type 0 where
  pub name : Name
  pub path : Path

abbrev pub carrier : Name → Path → Carrier
carrier name p = record { name = name; path = p }

-- the path that is spoken of, the claims so far, and the coreferences so far
pub record Running : Type 0 where
  pub path : Path
  pub claims : List Claim
  pub carriers : List Carrier

abbrev pub running : Path → List Claim → List Carrier → Running
running p claims carriers = record { path = p; claims = claims; carriers = carriers }

abbrev pub carrier_of : String Global × Vec Feat Global → Carrier
carrier_of e = record { name = string_bytes e.0; path = path_of e.1.items }

abbrev pub running_of : Told → Running
running_of t =
    record { path = path_of t.path.items; claims = claims_of t.facts.items; carriers = map carrier_of t.carriers.entries }

abbrev pub carrier_in : List Carrier → Name → Option Path
carrier_in [] name = None
carrier_in (c ∷ cs) name = if bytes_eq name c.name then Some c.path else carrier_in cs name

abbrev pub moved : Path → Running → Running
moved p s = record { path = p; claims = s.claims; carriers = s.carriers }

abbrev pub claimed : Claim → Running → Running
claimed c s = record { path = s.path; claims = s.claims ++ c ∷ []; carriers = s.carriers }

-- the coreference, unless it is there already
abbrev pub with_carrier : Name → Path → List Carrier → List Carrier
with_carrier name p cs = if is_some (carrier_in cs name) then cs else cs ++ record { name = name; path = p } ∷ []

abbrev pub carried : Name → Path → Running → Running
carried name p s =
    record {
      path = s.path;
      claims = s.claims ++ same (unwrap_or (carrier_in s.carriers name) p) p ∷ [];
      carriers = with_carrier name p s.carriers;
    }

abbrev pub told_once : TypeTable → Running → Saying ℕ → Running
told_once types s (has_type p name) = claimed (below p (type_number types name)) s
told_once types s (has_text p text) = claimed (below p (text_number types text)) s
told_once types s (carries p name) = carried name p s
told_once types s (is_there p) = claimed (exists_at p) s
told_once types s (are_equal p q) = claimed (same p q) s

abbrev pub told_all : TypeTable → Running → List (Saying ℕ) → Running
told_all types s [] = s
told_all types s (saying ∷ more) = told_all types (told_once types s saying) more

-- what a part of a body adds where it stands
abbrev pub term_told : WordTable → Running → TermTree → Running
term_told w s term = told_all w.types s (term_says (number_of w.feats) w.names s.path term)

abbrev pub body_told : WordTable → Running → BodyTree → Running
body_told w s body = told_all w.types s (body_says (number_of w.feats) w.names s.path body)

abbrev pub attrs_told : WordTable → Running → AttrTrees → Running
attrs_told w s attrs = told_all w.types s (attrs_say (number_of w.feats) w.names s.path attrs)

abbrev pub items_told : WordTable → Running → ItemTrees → Running
items_told w s items =
    moved (past_items (number_of w.feats w.names.rest) s.path items) (told_all w.types s (items_say (number_of w.feats) w.names s.path items))

abbrev pub end_told : WordTable → Running → RestTree → Running
end_told w s rest = told_all w.types s (end_says (number_of w.feats) w.names s.path rest)

abbrev pub list_told : WordTable → Running → ItemTrees → RestTree → Running
list_told w s items rest =
    let f = number_of w.feats in
    told_all w.types s (items_say f w.names s.path items ++ end_says f w.names (past_items (f w.names.rest) s.path items) rest)

abbrev pub difference_told : WordTable → Running → ItemTrees → Running
difference_told w s items =
    let f = number_of w.feats in
    let list = s.path ++ f w.names.diff_list ∷ [] in
    let last = s.path ++ f w.names.diff_last ∷ [] in
    told_all w.types s (items_say f w.names list items ++ are_equal (past_items (f w.names.rest) list items) last ∷ [])
