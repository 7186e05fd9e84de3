-- What is reached without what is dropped is reached with it; and what stands between tests and full structures.
use Rattle.std.specs.Prelude.{ℕ, ◌≡◌, Option, Some, None, List, map, All}
use Rattle.std.proofs.Common.{subst}
use Rattle.fs_model.specs.Claims.{Has, IsOrder}
use Rattle.tree_model.specs.Readings.{Wholes}
use Rattle.forest_unpack.specs.Reached.{IsReached, reached_leaf, reached_phrase}
use Rattle.tree_model.specs.Structures.{Structure}
use Rattle.tree_model.specs.Mothers.{Rule, IsFullAt}
use Rattle.tree_model.proofs.Closures.{closure_ends, kept_ends}
use Rattle.tree_model.specs.Signs.{Signs, rule_system}
use Rattle.tree_model.proofs.Once.{one_structure}
use Rattle.generate_model.specs.Pruning.{pruned}

module _ {V C : Type 0} (w : Wholes V C) (dropped : V → Type 0) (named : ℕ → Type 0) where
  pub reached_back : (v : V) → IsReached (pruned w dropped) named v → IsReached w named v
  reached_back _ (reached_leaf name is) = reached_leaf name is
  reached_back _ (reached_phrase rule vs v is) = reached_phrase rule vs v is.0

  pub all_back : {T : Type 0} (value : T → V) (xs : List T) → All (IsReached (pruned w dropped) named) (map value xs) → All (IsReached w named) (map value xs)
  all_back value xs all = λ k d l. reached_back _ (all k d l)

  -- no mother
  pub none_made : (rule : ℕ) (vs : List V) → ((v : V) → w.full rule vs v → ⊥) → (v : V) → (pruned w dropped).full rule vs v → ⊥
  none_made rule vs none v h = none v h.0

  pub none_over : (rule : ℕ) (vs : List V) → (u : V) × Has u vs × dropped u → (v : V) → (pruned w dropped).full rule vs v → ⊥
  none_over rule vs d v h = h.2 d.0 d.1 d.2

  -- the one mother is dropped
  pub none_kept : (rule : ℕ) (vs : List V) (full : V) → ((v : V) → w.full rule vs v → full ≡ v) → dropped full → (v : V) → (pruned w dropped).full rule vs v → ⊥
  none_kept rule vs full one d v h = h.1 (subst dropped (one v h.0) d)

  pub kept : (rule : ℕ) (vs : List V) (v : V) → w.full rule vs v → (dropped v → ⊥) → ((u : V) × Has u vs × dropped u → ⊥) → (pruned w dropped).full rule vs v
  kept rule vs v h not_it none = (h, not_it, λ u k d. none (u, k, d))

-- daughters have one mother at most
pub one_mother : (g : Signs) (o : IsOrder g.system) (rule : Option Rule) (vs : List Structure) (v u : Structure) → IsFullAt (rule_system g) rule vs v → IsFullAt (rule_system g) rule vs u → v ≡ u
one_mother g o None vs v u x y = absurd x
one_mother g o (Some rule) vs v u x y = one_structure g o (kept_ends (closure_ends g.system)) x.1 y.1
