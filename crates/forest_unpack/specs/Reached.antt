-- Full structures that are reached from leaves by rules.
use Rattle.std.specs.Prelude.{ℕ, List}
use Rattle.tree_model.specs.Readings.{Wholes}

-- the full structure of a leaf of a name that leaves may have, or one under a rule over others
pub data IsReached {C V : Type 0} (w : Wholes V C) (named : ℕ → Type 0) : V → Type 0 where
  reached_leaf : (name : ℕ) → named name → IsReached w named (w.leaf_full name)
  reached_phrase : (rule : ℕ) (vs : List V) (v : V) → w.full rule vs v → IsReached w named v
