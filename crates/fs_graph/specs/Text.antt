-- The text of a list of paths, in bytes: a line for each, with a line end.
use Rattle.std.specs.Prelude.{ℕ, ◌<◌, ◌==◌, ◌||◌, if◌then◌else◌, nat_lt, Option, Some, None, List, [], ◌∷◌, ◌++◌, map, slice_index_or, All}
use Rattle.std.specs.List.{flat_map}
use Rattle.std.specs.Char.{to_ascii_uppercase}
use Rattle.type_hierarchy.specs.Table.{TypeTable, completed_count}
use Rattle.fs_model.specs.Claims.{Path}
use Rattle.fs_graph.specs.Facts.{Line}

abbrev pub NamesPath : ℕ → Option Path → Type 0
NamesPath feats None = Unit {0}
NamesPath feats (Some p) = All (λ f. f < feats) p

-- the features and the type of a line have names
pub record IsNamed (types feats : ℕ) (line : Line) : Type 0 where
  pub path : All (λ f. f < feats) line.path
  pub ty : line.ty < types
  pub same_as : NamesPath feats line.same_as

-- a feature in ASCII upper case, with a dot before it
abbrev pub feature_text : List (List ℕ) → ℕ → List ℕ
feature_text feats f = 46 ∷ map to_ascii_uppercase (slice_index_or feats f [])

-- a dot for the root
abbrev pub path_text : List (List ℕ) → Path → List ℕ
path_text feats [] = 46 ∷ []
path_text feats (f ∷ p) = flat_map (feature_text feats) (f ∷ p)

-- a quote and a backslash have a backslash before them
abbrev pub escaped : ℕ → List ℕ
escaped byte = if (byte == 34 || byte == 92) then 92 ∷ byte ∷ [] else byte ∷ []

abbrev pub quoted : List ℕ → List ℕ
quoted text = (34 ∷ flat_map escaped text) ++ 34 ∷ []

-- a type by its name, a string between quotes
abbrev pub type_text : TypeTable → ℕ → List ℕ
type_text types t = if nat_lt t (completed_count types) then slice_index_or types.names t [] else quoted (slice_index_or types.names t [])

-- ` TYPE`, or ` = PATH` with the least path to the node
abbrev pub rest_text : TypeTable → List (List ℕ) → ℕ → Option Path → List ℕ
rest_text types feats t None = 32 ∷ type_text types t
rest_text types feats t (Some p) = (32 ∷ 61 ∷ 32 ∷ []) ++ path_text feats p

abbrev pub line_text : TypeTable → List (List ℕ) → Line → List ℕ
line_text types feats l = path_text feats l.path ++ rest_text types feats l.ty l.same_as ++ 10 ∷ []

abbrev pub text_of : TypeTable → List (List ℕ) → List Line → List ℕ
text_of types feats lines = flat_map (line_text types feats) lines
