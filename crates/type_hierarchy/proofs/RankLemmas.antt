-- Ranks of types along parents.
use Rattle.std.proofs.Common.{ℕ, ◌≤◌, List, [], slice_index_or, arith}
use Rattle.type_hierarchy.specs.Order.{IsAtOrBelow, itself, above_parent, IsBelow}
use Rattle.type_hierarchy.specs.Inner.Ranks.{rank_of, NeverRise, AreBelow}

not_higher : (parents : List (List ℕ)) (ranks : List ℕ) → NeverRise parents ranks → (a b : ℕ) → IsAtOrBelow parents a b → rank_of ranks b ≤ rank_of ranks a
not_higher parents ranks r a _ (itself _) = omega arith
not_higher parents ranks r a b (above_parent _ p _ h s) = omega (arith, r a p h, not_higher parents ranks r p b s)

-- a type above all its parents in rank isn't below itself
pub not_cyclic : (parents : List (List ℕ)) (ranks : List ℕ) (t : ℕ) → NeverRise parents ranks → AreBelow ranks (slice_index_or parents t []) (rank_of ranks t) → IsBelow parents t t → ⊥
not_cyclic parents ranks t r low below = omega (arith, low below.0 below.1, not_higher parents ranks r below.0 t below.2)
