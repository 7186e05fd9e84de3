-- Counts of the trees of groups by their full structures, made row by row without the trees.
use Rattle.std.specs.Prelude.{◌≡◌, ℕ, ◌≤◌, ◌+◌, ◌*◌, Some, List, [], ◌∷◌, ◌++◌, map, slice_get, slice_set}
use Rattle.tree_model.specs.Readings.{Wholes}
use Rattle.tree_model.specs.Lists.{GroupRow, a_leaf, a_whole}

-- a full structure, and a number of trees that have it
pub record Class (V : Type 0) : Type 0 where
  pub full : V
  pub times : ℕ

module _ {V : Type 0} where
  abbrev pub fulls_of : List (Class V) → List V
  fulls_of cs = map (λ c. c.full) cs

  -- in how many ways one tree can be taken of each of these
  abbrev pub ways : List (Class V) → ℕ
  ways [] = 1
  ways (c ∷ cs) = c.times * ways cs

  -- up to n trees of this full structure were counted to what was counted before
  pub data Gains (v : V) (n : ℕ) (old : List (Class V)) : List (Class V) → Type 0 where
    gains_none : Gains v n old old
    gains_new : (times : ℕ) → times ≤ n → Gains v n old (old ++ record { full = v; times = times } ∷ [])
    gains_more : (i before times : ℕ) → slice_get old i ≡ Some (record { full = v; times = before }) → times ≤ before + n → Gains v n old (slice_set old i (record { full = v; times = times }))

module _ {C V : Type 0} (w : Wholes V C) where
  -- what a rule makes of one tree of each of these was counted, if anything
  pub data Counts (rule : ℕ) (picked : List (Class V)) (old : List (Class V)) : List (Class V) → Type 0 where
    counts_none : Counts rule picked old old
    counts_some : (v : V) (new : List (Class V)) → w.full rule (fulls_of picked) v → Gains v (ways picked) old new → Counts rule picked old new

  mutual
    -- what it makes of these and one of each further list, or a part of it
    pub data CountsAll (rule : ℕ) : List (Class V) → List (List (Class V)) → List (Class V) → List (Class V) → Type 0 where
      all_picked : {picked old new : List (Class V)} → Counts rule picked old new → CountsAll rule picked [] old new
      one_picked : {picked old new cs : List (Class V)} {rest : List (List (Class V))} → CountsEach rule picked cs rest old new → CountsAll rule picked (cs ∷ rest) old new

    -- the same with each of these next
    pub data CountsEach (rule : ℕ) : List (Class V) → List (Class V) → List (List (Class V)) → List (Class V) → List (Class V) → Type 0 where
      each_stops : {picked cs old : List (Class V)} {rest : List (List (Class V))} → CountsEach rule picked cs rest old old
      each_more : {picked cs old mid new : List (Class V)} {c : Class V} {rest : List (List (Class V))} → CountsAll rule (picked ++ c ∷ []) rest old mid → CountsEach rule picked cs rest mid new → CountsEach rule picked (c ∷ cs) rest old new

  module _ (table : ℕ → List (Class V)) where
    -- what a row of a group gives, by what was counted of its daughters' hosts
    pub data CountsRow : GroupRow → List (Class V) → List (Class V) → Type 0 where
      row_leaf : {old new : List (Class V)} (name : ℕ) → Gains (w.leaf_full name) 1 old new → CountsRow (a_leaf name) old new
      row_whole : {old new : List (Class V)} (rule : ℕ) (ds : List ℕ) → CountsAll rule [] (map table ds) old new → CountsRow (a_whole rule ds) old new

    -- what rows give, one after another, or a part of it
    pub data CountsRows : List GroupRow → List (Class V) → List (Class V) → Type 0 where
      rows_stop : {rows : List GroupRow} {old : List (Class V)} → CountsRows rows old old
      rows_more : {row : GroupRow} {rows : List GroupRow} {old mid new : List (Class V)} → CountsRow row old mid → CountsRows rows mid new → CountsRows (row ∷ rows) old new

-- how many of these trees are asked for, or fewer; `c` is the cover of the host
pub data Accepts {C V : Type 0} (w : Wholes V C) (c : C) : List (Class V) → ℕ → Type 0 where
  accepts_none : {cs : List (Class V)} → Accepts w c cs 0
  accepts_less : {d : Class V} {cs : List (Class V)} {n : ℕ} → Accepts w c cs n → Accepts w c (d ∷ cs) n
  accepts_more : {d : Class V} {cs : List (Class V)} {n : ℕ} → w.accepted d.full c → Accepts w c cs n → Accepts w c (d ∷ cs) (d.times + n)

-- how many trees of these hosts are asked for, or fewer
pub data Sums {A C V : Type 0} (w : Wholes V C) (host : A → ℕ) (cover : A → C) (table : ℕ → List (Class V)) : List A → ℕ → ℕ → Type 0 where
  sums_stop : {asked : List A} {n : ℕ} → Sums w host cover table asked n n
  sums_more : {a : A} {asked : List A} {n m mid new : ℕ} → Accepts w (cover a) (table (host a)) m → mid ≤ n + m → Sums w host cover table asked mid new → Sums w host cover table (a ∷ asked) n new
