-- Sketches: the types of a structure at some paths.
use Rattle.std.specs.Prelude.{ℕ, ◌<◌, ◌&&◌, ◌||◌, ◌++◌, Bool, true, not, is_some, Option, Some, None, IfSome, List, [], ◌∷◌, All, map, option_map}
use Rattle.std.specs.Str.{bytes_eq}
use Rattle.std.specs.declared.vec.Vec.{Vec}
use Rattle.std.specs.Global.{Global}
use Rattle.type_hierarchy.specs.Table.{TypeTable, count_of, meet_of}
use Rattle.fs_model.specs.Claims.{Path}
use Rattle.fs_model.specs.Sources.{Reader}
use Rattle.fs_graph.specs.declared.facts.Feat.{Feat}
use Rattle.fs_graph.specs.Facts.{path_of}

abbrev pub paths_of : List (Vec Feat Global) → List Path
paths_of ps = map (λ p. path_of p.items) ps

-- a line of a sketch: a path, and the type at it, or none where the path doesn't exist
pub record TypeAt : Type 0 where
  pub path : Path
  pub ty : Option ℕ

-- the type at a path, and none where the path doesn't exist
abbrev pub type_along : Reader → Path → Option ℕ
type_along r p = option_map r.type_of (r.node_at p)

-- the sketch of a structure at these paths
abbrev pub sketch_of : Reader → List Path → List TypeAt
sketch_of r ps = map (λ p. record { path = p; ty = type_along r p }) ps

-- what stands at a place of a structure
abbrev pub below_place : Path → Reader → Reader
below_place place r = record { node_at = λ p. r.node_at (place ++ p); type_of = r.type_of }

-- the types of a sketch are in range
abbrev pub AreTypesIn : TypeTable → List TypeAt → Type 0
AreTypesIn types s = All (λ l. IfSome l.ty (λ t. t < count_of types)) s

-- two types at one path don't clash: they have a meet, or the path is missing on one side
abbrev pub types_meet : TypeTable → Option ℕ → Option ℕ → Bool
types_meet types None u = true
types_meet types (Some t) None = true
types_meet types (Some t) (Some u) = is_some (meet_of types t u)

-- no types clash of lines that stand at one place of both sketches and have one path
abbrev pub sketches_meet : TypeTable → List TypeAt → List TypeAt → Bool
sketches_meet types [] ms = true
sketches_meet types (l ∷ ls) [] = true
sketches_meet types (l ∷ ls) (m ∷ ms) = (types_meet types l.ty m.ty || not (bytes_eq l.path m.path)) && sketches_meet types ls ms
