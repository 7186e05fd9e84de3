-- Marks of nodes: each tells the node of another structure that stands for it, once one is known.
use Rattle.std.specs.Prelude.{ℕ, ◌≡◌, ◌≢◌, ◌-◌, ◌^◌, List, length, slice_index}

-- the mark of a node for which none is known
abbrev pub unmet : ℕ
unmet = 2 ^ 32 - 1

-- marks that are set stay as they are
pub record Extends (old new : List ℕ) : Type 0 where
  pub size : length new ≡ length old
  pub kept : (n : ℕ) → slice_index old n ≢ unmet → slice_index new n ≡ slice_index old n
