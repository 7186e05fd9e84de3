-- Unpacking without structures of which nothing can come.
use Rattle.std.specs.Prelude.{ℕ, ◌≡◌, ◌↔◌, List, length}
use Rattle.fs_model.specs.Claims.{Has}
use Rattle.chart_model.specs.Calculus.{Calculus}
use Rattle.chart_model.specs.At.{At}
use Rattle.chart_model.specs.Chart.{Leaf, Limits}
use Rattle.derivation.specs.Trees.{Derivation}
use Rattle.tree_model.specs.Readings.{Wholes, IsAccepted}

-- the same, but that rules make no structure that is dropped, and none of one that is
abbrev pub pruned : {V C : Type 0} → Wholes V C → (V → Type 0) → Wholes V C
pruned {V} w dropped =
    record {
      leaf_full = w.leaf_full;
      leaf_tree = w.leaf_tree;
      place = w.place;
      accepted = w.accepted;
      full = λ rule vs v. w.full rule vs v × (dropped v → ⊥) × ((u : V) → Has u vs → dropped u → ⊥);
    }

-- Some structures are fit, the leaves' among them, and rules make fit ones of fit ones. Of fit ones, a mother of a hopeless one is
-- hopeless, what is hopeless isn't accepted, and what is dropped is hopeless.
pub record Prunes {M C V : Type 0} (k : Calculus M C) (w : Wholes V C) (leaves : List (Leaf M C)) (fit hopeless dropped : V → Type 0) : Type 0 where
  pub leaf_fit : (l : ℕ) (leaf : Leaf M C) → At leaves l leaf → fit (w.leaf_full leaf.name)
  pub keeps_fit : (rule : ℕ) (vs : List V) (v : V) → length vs ≡ k.arity rule → ((u : V) → Has u vs → fit u) → w.full rule vs v → fit v
  pub spreads : (rule : ℕ) (vs : List V) (v u : V) → length vs ≡ k.arity rule → ((x : V) → Has x vs → fit x) → w.full rule vs v → Has u vs → hopeless u → hopeless v
  pub refused : (v : V) (c : C) → fit v → hopeless v → w.accepted v c → ⊥
  pub drops : (v : V) → fit v → dropped v → hopeless v

-- Then the readings that are asked for are the same.
abbrev pub PruningIsExact : Type 1
PruningIsExact = (M C V : Type 0) (k : Calculus M C) (w : Wholes V C) (limits : Limits) (leaves : List (Leaf M C)) (fit hopeless dropped : V → Type 0) → Prunes k w leaves fit hopeless dropped →
    (t : Derivation) → IsAccepted k (pruned w dropped) limits leaves t ↔ IsAccepted k w limits leaves t
