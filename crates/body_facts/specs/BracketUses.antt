-- The features that the brackets of a body have, in order of writing (DELPH-IN TDL).
use Rattle.std.specs.Prelude.{ℕ, Bool, true, false, ◌&&◌, List, [], ◌∷◌, ◌++◌, map}
use Rattle.type_hierarchy.specs.Decls.{Name}
use Rattle.tdl_reader.specs.Trees.{TermTree, of_name, of_text, of_coref, of_avm, of_list, of_diff, BodyTree, no_terms, and_term, AttrTrees, no_attrs, more_attrs, ItemTrees, no_items, more_items, RestTree, closed, open_end, tail_of}
use Rattle.body_facts.specs.Writing.{ListNames}
use Rattle.body_facts.specs.declared.brackets.Use.{Use}

-- a feature, the place of the bracket that itself has it, and whether it stands at the body's own node
pub record Used : Type 0 where
  pub feature : Name
  pub at : ℕ
  pub own : Bool

abbrev pub used_of : Use → Used
used_of u = record { feature = u.feature.now; at = u.at; own = u.own }

abbrev pub used : ℕ → Bool → Name → Used
used at own feature = record { feature = feature; at = at; own = own }

-- all features of an attribute's path belong to one bracket, and the first stands at the bracket's node
abbrev pub path_uses : ℕ → Bool → List Name → List Used
path_uses at own [] = []
path_uses at own (feature ∷ more) = used at own feature ∷ map (used at false) more

abbrev pub is_empty_path : List Name → Bool
is_empty_path [] = true
is_empty_path (feature ∷ more) = false

abbrev pub is_empty_list : ItemTrees → Bool
is_empty_list no_items = true
is_empty_list (more_items body more) = false

-- a list has its features only where it has an item
abbrev pub cell_uses : ListNames → ℕ → Bool → ItemTrees → List Used
cell_uses n at own no_items = []
cell_uses n at own (more_items body more) = used at own n.first ∷ used at own n.rest ∷ []

-- `own` tells whether a part stands at the body's own node
abbrev mutual
  pub term_uses : ListNames → Bool → TermTree → List Used
  term_uses n own (of_name name at) = []
  term_uses n own (of_text text at) = []
  term_uses n own (of_coref name at) = []
  term_uses n own (of_avm attrs at) = attrs_use n own at attrs
  term_uses n own (of_list items rest at) =
      cell_uses n at own items ++ items_use n items ++ end_uses n (own && is_empty_list items) rest
  term_uses n own (of_diff items at) =
      (used at own n.diff_list ∷ used at own n.diff_last ∷ []) ++ cell_uses n at false items ++ items_use n items

  pub body_uses : ListNames → Bool → BodyTree → List Used
  body_uses n own no_terms = []
  body_uses n own (and_term term more) = term_uses n own term ++ body_uses n own more

  pub attrs_use : ListNames → Bool → ℕ → AttrTrees → List Used
  attrs_use n own at no_attrs = []
  attrs_use n own at (more_attrs path body more) =
      path_uses at own path ++ body_uses n (own && is_empty_path path) body ++ attrs_use n own at more

  pub items_use : ListNames → ItemTrees → List Used
  items_use n no_items = []
  items_use n (more_items body more) = body_uses n false body ++ items_use n more

  pub end_uses : ListNames → Bool → RestTree → List Used
  end_uses n own closed = []
  end_uses n own open_end = []
  end_uses n own (tail_of body) = body_uses n own body
