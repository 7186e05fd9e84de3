-- The places of addenda.
use Rattle.std.specs.Prelude.{ℕ, if◌then◌else◌, List, [], ◌∷◌, length, flat_map}
use Rattle.std.specs.List.{range_with_len}
use Rattle.type_hierarchy.specs.Decls.{Name}
use Rattle.grammar_files.specs.Placings.{PlacedTree}
use Rattle.grammar_files.specs.Statements.{adds_to, statement_at}

-- the places of addenda to the type of a name
abbrev pub place_by : Name → PlacedTree → ℕ → List ℕ
place_by n p k = if adds_to n p then k ∷ [] else []

abbrev pub addenda_places : Name → List PlacedTree → List ℕ
addenda_places n ps = flat_map (λ k. place_by n (statement_at ps k) k) (range_with_len 0 (length ps))
