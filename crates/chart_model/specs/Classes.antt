-- The classes of a chart, and what a finished chart is.
use Rattle.std.specs.Prelude.{◌≡◌, ℕ, ◌+◌, ◌≤◌, ◌<◌, true, Some, List, [], ◌∷◌, length, slice_get}
use Rattle.chart_model.specs.Calculus.{Calculus}
use Rattle.chart_model.specs.At.{At}
use Rattle.chart_model.specs.Chart.{Row, Chart, Leaf, Limits, is_free}

pub record Class (M C : Type 0) : Type 0 where
  pub cover : C
  pub level : ℕ
  pub shape : M

module _ {M C : Type 0} where
  abbrev pub class_covers : List (Class M C) → List C
  class_covers [] = []
  class_covers (c ∷ cs) = c.cover ∷ class_covers cs

  abbrev pub class_shapes : List (Class M C) → List M
  class_shapes [] = []
  class_shapes (c ∷ cs) = c.shape ∷ class_shapes cs

  -- the level over daughters of these levels
  abbrev pub class_level : List (Class M C) → ℕ
  class_level [] = 0
  class_level (c ∷ []) = c.level + 1
  class_level (c ∷ d ∷ ds) = 0

mutual
  -- the least set that holds the leaves and is closed under rules
  pub data Member {M C : Type 0} (k : Calculus M C) (limits : Limits) (leaves : List (Leaf M C)) : Class M C → Type 0 where
    of_leaf : (l : ℕ) (leaf : Leaf M C) → At leaves l leaf → Member k limits leaves (record { cover = leaf.cover; level = 0; shape = leaf.shape })
    of_rule : (rule : ℕ) (ds : List (Class M C)) (c : C) (m : M) → rule < k.rules → length ds ≡ k.arity rule → Members k limits leaves ds → k.covers rule (class_covers ds) ≡ Some c → k.mother rule (class_shapes ds) m → Member k limits leaves (record { cover = c; level = class_level ds; shape = m })

  -- each is such a member, of level at most the limit
  pub data Members {M C : Type 0} (k : Calculus M C) (limits : Limits) (leaves : List (Leaf M C)) : List (Class M C) → Type 0 where
    no_members : Members k limits leaves []
    more_members : (d : Class M C) (ds : List (Class M C)) → Member k limits leaves d → d.level ≤ limits.unary → Members k limits leaves ds → Members k limits leaves (d ∷ ds)

module _ {M C : Type 0} (k : Calculus M C) (limits : Limits) (leaves : List (Leaf M C)) where
  -- no other member of the cover and level subsumes it
  pub record IsPacked (c : Class M C) : Type 0 where
    pub member : Member k limits leaves c
    pub least : (m : M) → Member k limits leaves (record c { shape = m }) → k.over m c.shape ≡ true → m ≡ c.shape

  -- row i is a live host of this class
  pub record IsHost (ch : Chart M C) (c : Class M C) (i : ℕ) : Type 0 where
    pub row : Row M C
    pub at : slice_get ch.rows i ≡ Some row
    pub free : is_free ch.into i ≡ true
    pub shape : row.shape ≡ Some c.shape
    pub cover : row.cover ≡ c.cover
    pub level : row.level ≡ c.level

  -- the live hosts are the packed classes, one for each
  pub record HostsAreClasses (ch : Chart M C) : Type 0 where
    pub sound : (c : Class M C) (i : ℕ) → IsHost ch c i → IsPacked c
    pub found : (c : Class M C) → IsPacked c → (i : ℕ) × IsHost ch c i
    pub once : (c : Class M C) (i j : ℕ) → IsHost ch c i → IsHost ch c j → i ≡ j
