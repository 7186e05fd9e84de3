-- How a sketch is kept.
use Rattle.std.specs.Prelude.{ℕ, Option, List, [], ◌∷◌, map, option_map}
use Rattle.type_hierarchy.specs.declared.types.Ty.{Ty}
use Rattle.fs_model.specs.Claims.{Path}
use Rattle.fs_graph.specs.Facts.{path_of}
use Rattle.sieve.specs.Sketches.{TypeAt}
use Rattle.sieve.specs.declared.sketches.SketchLine.{SketchLine}

-- types in code as numbers
abbrev pub numbers_of : List (Option Ty) → List (Option ℕ)
numbers_of os = map (option_map (λ t. t.0)) os

-- paths with the types at them
abbrev pub lines_of : List Path → List (Option ℕ) → List TypeAt
lines_of [] ts = []
lines_of (p ∷ ps) [] = []
lines_of (p ∷ ps) (t ∷ ts) = record { path = p; ty = t } ∷ lines_of ps ts

-- a line in code
abbrev pub line_seen : SketchLine → TypeAt
line_seen l = record { path = path_of l.path.now; ty = option_map (λ t. t.0) l.ty }
