-- Trees over the leaves, and what stands in a chart for them.
use Rattle.std.specs.Prelude.{◌≡◌, ℕ, ◌≤◌, ◌<◌, true, Option, Some, None, List, [], ◌∷◌, length, slice_get}
use Rattle.chart_model.specs.Calculus.{Calculus}
use Rattle.chart_model.specs.At.{At}
use Rattle.chart_model.specs.Chart.{OfWhole, Row, Chart, Leaf, Limits, is_free, all_free}
use Rattle.chart_model.specs.Classes.{Class, class_covers, class_shapes, class_level}

mutual
  -- a tree over the leaves: a leaf by its number, or a rule with its daughters
  pub data Tree : Type 0 where
    leaf_tree : ℕ → Tree
    phrase : ℕ → Trees → Tree

  pub data Trees : Type 0 where
    no_trees : Trees
    more_trees : Tree → Trees → Trees

mutual
  -- the tree has this cover, level and full structure; `full` tells the mothers of full structures
  pub data Grown {M C F : Type 0} (k : Calculus M C) (full : ℕ → List F → F → Type 0) (of_leaf : Leaf M C → F → Type 0) (limits : Limits) (leaves : List (Leaf M C)) : Tree → Class F C → Type 0 where
    grown_leaf : (l : ℕ) (leaf : Leaf M C) (f : F) → At leaves l leaf → of_leaf leaf f → Grown k full of_leaf limits leaves (leaf_tree l) (record { cover = leaf.cover; level = 0; shape = f })
    grown_rule : (rule : ℕ) (ts : Trees) (ds : List (Class F C)) (c : C) (f : F) → rule < k.rules → length ds ≡ k.arity rule → AllGrown k full of_leaf limits leaves ts ds → k.covers rule (class_covers ds) ≡ Some c → full rule (class_shapes ds) f → Grown k full of_leaf limits leaves (phrase rule ts) (record { cover = c; level = class_level ds; shape = f })

  -- each is such a tree, of level at most the limit
  pub data AllGrown {M C F : Type 0} (k : Calculus M C) (full : ℕ → List F → F → Type 0) (of_leaf : Leaf M C → F → Type 0) (limits : Limits) (leaves : List (Leaf M C)) : Trees → List (Class F C) → Type 0 where
    no_grown : AllGrown k full of_leaf limits leaves no_trees []
    more_grown : (t : Tree) (ts : Trees) (d : Class F C) (ds : List (Class F C)) → Grown k full of_leaf limits leaves t d → d.level ≤ limits.unary → AllGrown k full of_leaf limits leaves ts ds → AllGrown k full of_leaf limits leaves (more_trees t ts) (d ∷ ds)

-- from row i one comes to j by following representatives, and j has none
pub data LeadsTo (into : List (Option ℕ)) : ℕ → ℕ → Type 0 where
  ends : {i : ℕ} → At into i None → LeadsTo into i i
  goes : {i r j : ℕ} → At into i (Some r) → LeadsTo into r j → LeadsTo into i j

mutual
  -- the tree stands in the forest by row i, in the group of the live host h: row i counts (it is the leaf's, or a whole
  -- row whose daughters are all live hosts), its last representative is h, and each daughter's tree stands in the group of that daughter
  pub data Stands {M C : Type 0} (leaves : List (Leaf M C)) (ch : Chart M C) : Tree → ℕ → ℕ → Type 0 where
    stands_leaf : {l h : ℕ} → l < length leaves → LeadsTo ch.into l h → Stands leaves ch (leaf_tree l) l h
    stands_phrase : {rule : ℕ} {ts : Trees} {i h : ℕ} (row : Row M C) → At ch.rows i row → row.kind ≡ OfWhole rule → all_free ch.into row.daughters ≡ true → AllStand leaves ch ts row.daughters → LeadsTo ch.into i h → Stands leaves ch (phrase rule ts) i h

  -- each tree stands in the group of the host at its place
  pub data AllStand {M C : Type 0} (leaves : List (Leaf M C)) (ch : Chart M C) : Trees → List ℕ → Type 0 where
    none_stand : AllStand leaves ch no_trees []
    more_stand : {t : Tree} {ts : Trees} {i d : ℕ} {ds : List ℕ} → Stands leaves ch t i d → AllStand leaves ch ts ds → AllStand leaves ch (more_trees t ts) (d ∷ ds)

-- the tree stands in exactly one group, by one row; the group's host is live, has the tree's cover and level, and its shape agrees with the tree's full structure
pub record Holds {M C F : Type 0} (agrees : M → F → Type 0) (leaves : List (Leaf M C)) (ch : Chart M C) (t : Tree) (c : Class F C) : Type 0 where
  pub number : ℕ
  pub host : ℕ
  pub stands : Stands leaves ch t number host
  pub once : (i h : ℕ) → Stands leaves ch t i h → (i ≡ number) × (h ≡ host)
  pub row : Row M C
  pub at : slice_get ch.rows host ≡ Some row
  pub free : is_free ch.into host ≡ true
  pub shape : M
  pub shape_is : row.shape ≡ Some shape
  pub agrees_too : agrees shape c.shape
  pub cover : row.cover ≡ c.cover
  pub level : row.level ≡ c.level

-- each tree over leaves whose shapes agree stands in exactly one group
abbrev pub HoldsTrees : {M C F : Type 0} → Calculus M C → (ℕ → List F → F → Type 0) → (M → F → Type 0) → Limits → List (Leaf M C) → Chart M C → Type 0
HoldsTrees {M} {C} {F} k full agrees limits leaves ch = (t : Tree) (c : Class F C) → Grown k full (λ leaf f. agrees leaf.shape f) limits leaves t c → Holds agrees leaves ch t c
