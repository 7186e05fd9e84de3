-- Lists of arcs as they stand for nodes.
use Rattle.std.specs.Prelude.{ℕ, ◌≡◌, ◌≤◌, ◌<◌, ◌+◌, ◌==◌, true, false, Option, None, List, [], ◌∷◌, length, slice_index_or, find, reverse}
use Rattle.std.specs.Option.{option_map}
use Rattle.fs_closing.specs.declared.cells.Cell.{Cell}

-- the cells from a place on, where the last cell comes first
abbrev pub chain_back : List Cell → ℕ → List Cell
chain_back [] place = []
chain_back (c ∷ cells) place =
    elim (place == length cells + 1) [ true ↦ c ∷ chain_back cells c.next | false ↦ chain_back cells place ]

-- the cells from a place on: 0 is no place, and k + 1 is the place of cell k
abbrev pub chain : List Cell → ℕ → List Cell
chain cells place = chain_back (reverse cells) place

abbrev pub find_arc : List Cell → ℕ → Option ℕ
find_arc cells f = option_map (λ c. c.to) (find (λ c. c.feat == f) cells)

abbrev pub no_cell : Cell
no_cell = record { feat = 0; to = 0; next = 0 }

-- the next place is an earlier one
abbrev pub PlacesFall : List Cell → Type 0
PlacesFall cells = (k : ℕ) → k < length cells → (slice_index_or cells k no_cell).next ≤ k

-- no feature comes twice
abbrev pub AreOnce : List Cell → Type 0
AreOnce [] = Unit {0}
AreOnce (c ∷ cells) = (find_arc cells c.feat ≡ None) × AreOnce cells
