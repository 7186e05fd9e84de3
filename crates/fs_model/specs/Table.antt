-- A table of nodes, and the claims that it states.
use Rattle.std.specs.Prelude.{ℕ, ◌≡◌, ◌<◌, true, Option, Some, None, List, [], ◌∷◌, ◌++◌}
use Rattle.fs_model.specs.Claims.{Path, Claim, exists_at, same, below, System, Has}
use Rattle.fs_model.specs.Closure.{Closure}

-- `live` gives the node that a node was merged into, and itself for a node that wasn't merged
pub record Table : Type 0 where
  pub size : ℕ
  pub live : ℕ → ℕ
  pub arc : ℕ → ℕ → Option ℕ
  pub type_of : ℕ → ℕ

pub record IsTable (t : Table) : Type 0 where
  pub live_in : (n : ℕ) → n < t.size → t.live n < t.size
  pub live_twice : (n : ℕ) → t.live (t.live n) ≡ t.live n
  pub arc_in : (n f m : ℕ) → n < t.size → t.arc n f ≡ Some m → m < t.size

-- a claim on paths that begin at nodes
pub data NodeClaim : Type 0 where
  is_there : ℕ → Path → NodeClaim
  is_same : ℕ → Path → ℕ → Path → NodeClaim
  is_under : ℕ → Path → ℕ → NodeClaim

-- a claim on paths, at a node
abbrev pub from : ℕ → Claim → NodeClaim
from n (exists_at p) = is_there n p
from n (same p q) = is_same n p n q
from n (below p t) = is_under n p t

-- what a table and the work that is left say
pub data Stated (t : Table) (work : List NodeClaim) : NodeClaim → Type 0 where
  by_node : (n : ℕ) → n < t.size → Stated t work (is_there n [])
  by_arc : (n f m : ℕ) → n < t.size → t.live n ≡ n → t.arc n f ≡ Some m → Stated t work (is_same n (f ∷ []) m [])
  by_merge : (n : ℕ) → n < t.size → Stated t work (is_same n [] (t.live n) [])
  by_type : (n : ℕ) → n < t.size → t.live n ≡ n → Stated t work (is_under n [] (t.type_of n))
  by_work : (c : NodeClaim) → Has c work → Stated t work c

-- what follows by equality and the order of types alone
pub data Follows (s : System) (t : Table) (work : List NodeClaim) : NodeClaim → Type 0 where
  stated : (c : NodeClaim) → Stated t work c → Follows s t work c
  there_left : (n m : ℕ) (p q : Path) → Follows s t work (is_same n p m q) → Follows s t work (is_there n p)
  there_under : (n u : ℕ) (p : Path) → Follows s t work (is_under n p u) → Follows s t work (is_there n p)
  there_before : (n : ℕ) (p q : Path) → Follows s t work (is_there n (p ++ q)) → Follows s t work (is_there n p)
  same_itself : (n : ℕ) (p : Path) → Follows s t work (is_there n p) → Follows s t work (is_same n p n p)
  same_back : (n m : ℕ) (p q : Path) → Follows s t work (is_same n p m q) → Follows s t work (is_same m q n p)
  same_on : (n m k : ℕ) (p q r : Path) → Follows s t work (is_same n p m q) → Follows s t work (is_same m q k r) →
      Follows s t work (is_same n p k r)
  same_further : (n m : ℕ) (p q r : Path) → Follows s t work (is_same n p m q) → Follows s t work (is_there n (p ++ r)) →
      Follows s t work (is_same n (p ++ r) m (q ++ r))
  under_same : (n m u : ℕ) (p q : Path) → Follows s t work (is_same n p m q) → Follows s t work (is_under n p u) →
      Follows s t work (is_under m q u)
  under_both : (n u v m : ℕ) (p : Path) → Follows s t work (is_under n p u) → Follows s t work (is_under n p v) →
      s.meet u v ≡ Some m → Follows s t work (is_under n p m)
  under_higher : (n u v : ℕ) (p : Path) → Follows s t work (is_under n p u) → s.is_below u v ≡ true →
      Follows s t work (is_under n p v)
  under_top : (n : ℕ) (p : Path) → Follows s t work (is_there n p) → Follows s t work (is_under n p s.top)

-- the node at a path from a node
abbrev pub walk : Table → ℕ → Path → Option ℕ
walk t n [] = Some (t.live n)
walk t n (f ∷ p) = elim (t.arc (t.live n) f) [ None ↦ None | Some m ↦ walk t m p ]

-- what a reader of the table sees
abbrev pub Seen : System → Table → NodeClaim → Type 0
Seen s t (is_there n p) = (k : ℕ) × (walk t n p ≡ Some k)
Seen s t (is_same n p m q) = (k : ℕ) × (walk t n p ≡ Some k) × (walk t m q ≡ Some k)
Seen s t (is_under n p u) = (k : ℕ) × (walk t n p ≡ Some k) × (s.is_below (t.type_of k) u ≡ true)

-- the table, with the work that is left, holds the given claims and the facts of its types
pub record IsComplete (s : System) (given : Claim → Type 0) (t : Table) (work : List NodeClaim) : Type 0 where
  pub starts : (c : Claim) → given c → Follows s t work (from 0 c)
  pub introduces : (n f m : ℕ) → n < t.size → t.live n ≡ n → t.arc n f ≡ Some m → Follows s t work (is_under n [] (s.introducer f))
  pub constrains : (n u : ℕ) (c : Claim) → n < t.size → t.live n ≡ n → s.is_below (t.type_of n) u ≡ true → Has c (s.facts_of u) →
      Follows s t work (from n c)

-- the path that a node stands for, for each node of a claim
abbrev pub read : (ℕ → Path) → NodeClaim → Claim
read w (is_there n p) = exists_at (w n ++ p)
read w (is_same n p m q) = same (w n ++ p) (w m ++ q)
read w (is_under n p u) = below (w n ++ p) u

-- what the table and the work say is in the closure, where each node stands for a path
pub record IsSound (s : System) (given : Claim → Type 0) (t : Table) (work : List NodeClaim) (w : ℕ → Path) : Type 0 where
  pub root : w 0 ≡ []
  pub stated_in : (c : NodeClaim) → Stated t work c → Closure s given (read w c)
