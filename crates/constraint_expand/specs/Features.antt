-- The features that statements use, and the types that write them (DELPH-IN TDL; Copestake 2002).
use Rattle.std.specs.Prelude.{ℕ, ◌++◌, ◌&&◌, Bool, true, List, map, filter, flat_map}
use Rattle.std.specs.Cmp.Lexicographic.{slice_cmp}
use Rattle.std.specs.List.Sorted.{IsSorted}
use Rattle.std.specs.Ordering.{nat_cmp}
use Rattle.std.specs.Str.{bytes_eq}
use Rattle.fs_model.specs.Claims.{Has}
use Rattle.type_hierarchy.specs.Decls.{Name}
use Rattle.type_hierarchy.specs.Table.{TypeTable, IsDistinct}
use Rattle.body_facts.specs.Writing.{ListNames}
use Rattle.body_facts.specs.BracketUses.{Used, body_uses}
use Rattle.body_facts.specs.Numbers.{type_number}
use Rattle.grammar_files.specs.Placings.{PlacedTree}
use Rattle.constraint_expand.specs.Statements.{name_of, body_of, speaks_of_type, defines_instance}

-- the uses of a statement's body, in order of writing
abbrev pub uses_in : ListNames → PlacedTree → List Used
uses_in n p = body_uses n true (body_of p)

-- the uses of all that is heeded: types before instances, each in order of writing
abbrev pub all_uses : ListNames → List PlacedTree → List Used
all_uses n ps = flat_map (uses_in n) (filter speaks_of_type ps) ++ flat_map (uses_in n) (filter defines_instance ps)

-- the features as often as they are used
abbrev pub features_used : ListNames → List PlacedTree → List Name
features_used n ps = map (λ u. u.feature) (all_uses n ps)

-- each feature that is used, once, in the byte order of the names
pub record AreFeatures (n : ListNames) (ps : List PlacedTree) (feats : List Name) : Type 0 where
  pub in_order : IsSorted (slice_cmp nat_cmp) feats
  pub once : IsDistinct feats
  pub used : (f : Name) → Has f feats → Has f (features_used n ps)
  pub all : (f : Name) → Has f (features_used n ps) → Has f feats

-- a use of a feature at the node of the body itself
abbrev pub is_writing : Name → Used → Bool
is_writing f u = u.own && bytes_eq f u.feature

-- the type of a statement, as often as its body has the feature at its own node
abbrev pub writings_in : TypeTable → ListNames → Name → PlacedTree → List ℕ
writings_in types n f p = map (λ u. type_number types (name_of p)) (filter (is_writing f) (uses_in n p))

-- the types that write a feature: their bodies or addenda have it at their own node
abbrev pub writers_of : TypeTable → ListNames → List PlacedTree → Name → List ℕ
writers_of types n ps f = flat_map (writings_in types n f) (filter speaks_of_type ps)
