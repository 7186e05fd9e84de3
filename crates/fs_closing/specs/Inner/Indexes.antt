-- An index of the arcs of nodes with many.
use Rattle.std.specs.Prelude.{ℕ, ◌≡◌, ◌≤◌, ◌<◌, Option, Some, None, List, length, slice_index_or, nat_eq, Bool, ◌&&◌}
use Rattle.std.specs.Option.{option_or}
use Rattle.std.specs.HashMap.{get}
use Rattle.fs_closing.specs.declared.cells.Cell.{Cell}
use Rattle.fs_closing.specs.declared.cells.Sought.{Sought}
use Rattle.fs_closing.specs.declared.cells.Sought.TheVariants.{Found, From}
use Rattle.fs_closing.specs.declared.index.Index.{Index}
use Rattle.fs_closing.specs.declared.index.Part.{Part}
use Rattle.fs_closing.specs.Cells.{chain, find_arc}

-- an arc from the first place on is in the index, or is one of the rest
pub record IsPart (cells : List Cell) (arcs : ℕ → Option ℕ) (p : Part) : Type 0 where
  pub first_in : p.first ≤ length cells
  pub rest_in : p.rest ≤ length cells
  pub finds : (f : ℕ) → find_arc (chain cells p.first) f ≡ option_or (arcs f) (find_arc (chain cells p.rest) f)

-- so for the parts of all nodes, and no other arc is in the index
pub record AreParts (cells : List Cell) (arcs : ℕ → ℕ → Option ℕ) (parts : ℕ → Option Part) : Type 0 where
  pub none : (n f : ℕ) → parts n ≡ None → arcs n f ≡ None
  pub some : (n : ℕ) (p : Part) → parts n ≡ Some p → IsPart cells (arcs n) p

abbrev pub key_eq : ℕ × ℕ → ℕ × ℕ → Bool
key_eq p q = nat_eq p.0 q.0 && nat_eq p.1 q.1

abbrev pub arc_in : Index → ℕ → ℕ → Option ℕ
arc_in index n f = get key_eq index.arcs (n, f)

abbrev pub part_in : Index → ℕ → Option Part
part_in index n = get nat_eq index.parts n

abbrev pub IsIndex : List Cell → Index → Type 0
IsIndex cells index = AreParts cells (arc_in index) (part_in index)

-- the index is made once it is needed
abbrev pub HaveIndex : List Cell → List Index → Type 0
HaveIndex cells indexes = (d : Index) → 0 < length indexes → IsIndex cells (slice_index_or indexes 0 d)

-- what is known of an arc, of those from a place on: where it leads, or a place from which on it is to be sought
abbrev pub Leads : List Cell → ℕ → ℕ → Sought → Type 0
Leads cells first f (Found to) = find_arc (chain cells first) f ≡ Some to
Leads cells first f (From rest) = (rest ≤ length cells) × (find_arc (chain cells first) f ≡ find_arc (chain cells rest) f)
