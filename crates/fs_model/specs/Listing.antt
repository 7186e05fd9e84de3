-- A structure as a list of its paths, and how the list comes about.
use Rattle.std.specs.Prelude.{ℕ, ◌≡◌, ◌≢◌, ◌<◌, ◌⊎◌, Option, Some, None, List, [], ◌∷◌, ◌++◌, length, slice_index_or}
use Rattle.fs_model.specs.Claims.{Path}
use Rattle.fs_model.specs.Sources.{Reader}
use Rattle.fs_model.specs.Table.{Table}
use Rattle.fs_model.specs.Numbering.{IsBefore, IsLeastPath}

-- each path that the path goes on from is the least one to its node
abbrev pub AreLeast : Reader → Path → Type 0
AreLeast r p = (q s : Path) (f m : ℕ) → p ≡ q ++ f ∷ s → r.node_at q ≡ Some m → IsLeastPath r m q

-- a path, and a least path to its node where that is another one
abbrev pub IsShown : Reader → ℕ → Path → Option Path → Type 0
IsShown r n p None = IsLeastPath r n p
IsShown r n p (Some q) = IsLeastPath r n q × (q ≢ p)

abbrev pub path_at : List Path → ℕ → Path
path_at ps i = slice_index_or ps i []

abbrev pub IsIn : List Path → Path → Type 0
IsIn ps p = (i : ℕ) × (i < length ps) × (path_at ps i ≡ p)

-- an arc as the path to its node and its feature
pub record IsArcPath (t : Table) (least : ℕ → Path) (p : Path) : Type 0 where
  pub from : ℕ
  pub feat : ℕ
  pub to : ℕ
  pub in_table : from < t.size
  pub arc : t.arc from feat ≡ Some to
  pub path : p ≡ least from ++ feat ∷ []

-- the path of an arc of a node whose least path was listed
pub record Waits (t : Table) (least : ℕ → Path) (listed : List Path) (p : Path) : Type 0 where
  pub arc_path : IsArcPath t least p
  pub from_listed : IsIn listed (least arc_path.from)

-- Paths that were listed, and paths that wait, the next one last. Each node whose least path was listed has the paths of
-- all its arcs in one of the two lists.
pub record Listing (t : Table) (least : ℕ → Path) (listed waiting : List Path) : Type 0 where
  pub root : (0 < length listed) × (path_at listed 0 ≡ [])
  pub rises : (i j : ℕ) → i < j → j < length listed → IsBefore (path_at listed i) (path_at listed j)
  pub falls : (i j : ℕ) → i < j → j < length waiting → IsBefore (path_at waiting j) (path_at waiting i)
  pub before : (i j : ℕ) → i < length listed → j < length waiting → IsBefore (path_at listed i) (path_at waiting j)
  pub waits : (j : ℕ) → j < length waiting → Waits t least listed (path_at waiting j)
  pub expanded : (n f m : ℕ) → n < t.size → IsIn listed (least n) → t.arc n f ≡ Some m →
      IsIn listed (least n ++ f ∷ []) ⊎ IsIn waiting (least n ++ f ∷ [])
