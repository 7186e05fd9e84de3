-- The report of `types`: each completed type with its immediate supertypes (Copestake 2002).
use Rattle.std.specs.Prelude.{ℕ, List, [], ◌∷◌, ◌++◌, map, codes, slice_index_or}
use Rattle.std.specs.List.{range_with_len}
use Rattle.type_hierarchy.specs.Table.{TypeTable, completed_count}
use Rattle.type_hierarchy.specs.Supertypes.{supertypes_of}
use Rattle.command_files.specs.FaultTexts.{spaced}

abbrev pub name_at : TypeTable → ℕ → List ℕ
name_at t n = slice_index_or t.names n []

-- a type's name and `:`, and after a blank each the names of its immediate supertypes
abbrev pub type_line : TypeTable → ℕ → List ℕ
type_line t n = name_at t n ++ codes ":" ++ spaced (map (name_at t) (supertypes_of t n)) ++ 10 ∷ []

-- A line for each completed type: the top type, the string type where it isn't written, written types in order, added types.
abbrev pub type_lines : TypeTable → List (List ℕ)
type_lines t = map (type_line t) (range_with_len 0 (completed_count t))
