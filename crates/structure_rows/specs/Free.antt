-- Nodes that have no arc with a feature yet.
use Rattle.std.specs.Prelude.{ℕ, ◌≡◌, ◌+◌, ◌*◌, ◌<◌, ◌==◌, false, None, List}
use Rattle.std.specs.List.{list_any}
use Rattle.fs_graph.specs.GraphMap.{GraphMap, arcs_at, arc_to}

-- no node has an arc
abbrev pub IsEmpty : GraphMap → Type 0
IsEmpty g = (n f : ℕ) → arc_to (arcs_at g n) f ≡ None

-- each arc is among those that are seen
abbrev pub IsFree : GraphMap → List ℕ → Type 0
IsFree g seen = (n f : ℕ) → f < 16 → list_any (λ k. k == n * 16 + f) seen ≡ false → arc_to (arcs_at g n) f ≡ None
