-- What a step keeps: where nodes and work stand for given claims, the new ones do.
use Rattle.std.specs.Prelude.{ℕ, ◌≡◌, ◌<◌, ◌≤◌, ◌⊎◌, Bool, true, false, Option, Some, None, List, [], ◌∷◌, ◌++◌, length, map}
use Rattle.fs_model.specs.Claims.{Path, Claim, System, Has}
use Rattle.fs_model.specs.Closure.{IsConsistent}
use Rattle.fs_model.specs.Sources.{Source, Told}
use Rattle.fs_model.specs.Table.{Table, NodeClaim, is_there, is_same, is_under, from}
use Rattle.fs_model.specs.Steps.{Closes}
use Rattle.type_hierarchy.specs.Table.{count_of, is_below}
use Rattle.fs_closing.specs.declared.cells.Cell.{Cell}
use Rattle.fs_closing.specs.declared.nodes.Nodes.{Nodes}
use Rattle.fs_closing.specs.declared.tasks.Tasks.{Tasks}
use Rattle.fs_closing.specs.Rules.{Grammar, system_of}
use Rattle.fs_closing.specs.declared.closing.Progress.{Progress}
use Rattle.fs_closing.specs.declared.closing.Progress.TheVariants.{Stepped, Clashed, Ended}
use Rattle.fs_closing.specs.Work.{AreReady, work_of}
use Rattle.fs_closing.specs.NodeTable.{table_of, depth_of, IsWhole, IsWithin}

-- a table, and for each node a number of features that some path to it has at least
pub record Deep : Type 0 where
  pub table : Table
  pub depth : ℕ → ℕ

abbrev pub deep_of : Nodes → Deep
deep_of nodes = record { table = table_of nodes; depth = λ n. depth_of nodes n }

-- the table with its work stands between the given claims and their closure, by paths that are as long as their depths
pub record Stands (s : System) (given : Claim → Type 0) (x : Deep) (work : List NodeClaim) (w : ℕ → Path) : Type 0 where
  pub closes : Closes s given x.table work w
  pub deep : (n : ℕ) → n < x.table.size → x.depth n ≤ length (w n)

abbrev pub Keeps : System → Deep → List NodeClaim → Deep → List NodeClaim → Type 0
Keeps s x work y work' = (g : Source) (w : ℕ → Path) → Stands s (Told g) x work w → (w' : ℕ → Path) × Stands s (Told g) y work' w'

-- the same, whatever other work there is
abbrev pub Turns : System → Deep → List NodeClaim → Deep → List NodeClaim → Type 0
Turns s x work y work' = (extra : List NodeClaim) → Keeps s x (work ++ extra) y (work' ++ extra)

-- what the nodes and this work stand for is inconsistent
abbrev pub Refutes : System → Deep → List NodeClaim → Type 0
Refutes s x work = (extra : List NodeClaim) (g : Source) (w : ℕ → Path) → Stands s (Told g) x (work ++ extra) w → IsConsistent s (Told g) → ⊥

-- two lists that hold the same
pub record IsSameWork (xs ys : List NodeClaim) : Type 0 where
  pub into : (c : NodeClaim) → Has c xs → Has c ys
  pub back : (c : NodeClaim) → Has c ys → Has c xs

-- a claim with another beginning
abbrev pub begin : ℕ → Path → NodeClaim → NodeClaim
begin n p (is_there m q) = is_there n p
begin n p (is_same m q k r) = is_same n p k r
begin n p (is_under m q u) = is_under n p u

-- what the code keeps of nodes and tasks
pub record AreSound (g : Grammar) (nodes : Nodes) (tasks : Tasks) : Type 0 where
  pub whole : IsWhole nodes
  pub within : IsWithin (count_of g.types) (length g.introducers) nodes
  pub ready : AreReady nodes.size (count_of g.types) (length g.rules) tasks

-- nodes with work lead to nodes with other work
abbrev pub Leads : Grammar → Nodes → List NodeClaim → Nodes → List NodeClaim → Type 0
Leads g nodes work nodes' work' = Turns (system_of g) (deep_of nodes) work (deep_of nodes') work'

-- nodes with work show that there is no structure
abbrev pub Clashes : Grammar → Nodes → List NodeClaim → Type 0
Clashes g nodes work = Refutes (system_of g) (deep_of nodes) work

-- the claims of arcs at a node
abbrev pub arc_claims : ℕ → List Cell → List NodeClaim
arc_claims n cells = map (λ c. is_same n (c.feat ∷ []) c.to []) cells

-- one of two types is at or below a third one
abbrev pub IsHeld : Grammar → ℕ → ℕ → ℕ → Type 0
IsHeld g old other t = (is_below g.types old t ≡ true) ⊎ (is_below g.types other t ≡ true)

-- the facts of types at or above a type become work at a node, but for types that are at or above one of two old ones too
pub record PushesFacts (s : System) (node ty old other : ℕ) (work work' : List NodeClaim) : Type 0 where
  pub facts : (x : ℕ) (c : Claim) → s.is_below ty x ≡ true → Has c (s.facts_of x) →
      (s.is_below old x ≡ true) ⊎ ((s.is_below other x ≡ true) ⊎ Has (from node c) work')
  pub rest : (c : NodeClaim) → Has c work → Has c work'
  pub only : (c : NodeClaim) → Has c work' →
      ((x : ℕ) × (d : Claim) × (s.is_below ty x ≡ true) × Has d (s.facts_of x) × (c ≡ from node d)) ⊎ Has c work

-- where a step on work leads, or that it shows a clash
abbrev pub StepsTo : Grammar → Nodes → List NodeClaim → Nodes → Tasks → Bool → Type 0
StepsTo g nodes work nodes' tasks' true = Leads g nodes work nodes' (work_of g.rules tasks') × AreSound g nodes' tasks'
StepsTo g nodes work nodes' tasks' false = Clashes g nodes work

-- the node at the end of a path from a node, to which claims that begin there are moved; none where the path is too long
abbrev pub Reaches : Grammar → Nodes → Tasks → ℕ → Path → Nodes → Tasks → Option ℕ → Type 0
Reaches g nodes tasks n p nodes' tasks' None = (c : NodeClaim) → Clashes g nodes (begin n p c ∷ work_of g.rules tasks)
Reaches g nodes tasks n p nodes' tasks' (Some m) =
    ((c : NodeClaim) → Leads g nodes (begin n p c ∷ work_of g.rules tasks) nodes' (begin m [] c ∷ work_of g.rules tasks'))
    × AreSound g nodes' tasks' × (m < nodes'.size) × (nodes.size ≤ nodes'.size)

-- a closing that goes on, one that met a clash, and one that has no work left
abbrev pub Progresses : Grammar → Nodes → Tasks → Nodes → Tasks → Progress → Type 0
Progresses g nodes tasks nodes' tasks' Stepped =
    Leads g nodes (work_of g.rules tasks) nodes' (work_of g.rules tasks') × AreSound g nodes' tasks'
Progresses g nodes tasks nodes' tasks' Clashed = Clashes g nodes (work_of g.rules tasks)
Progresses g nodes tasks nodes' tasks' Ended = (work_of g.rules tasks ≡ []) × (nodes' ≡ nodes)

-- a closing that came to its end: no work is left, or there is no structure
abbrev pub Closed : Grammar → Nodes → Tasks → Nodes → Bool → Type 0
Closed g nodes tasks nodes' true =
    Leads g nodes (work_of g.rules tasks) nodes' [] × IsWhole nodes' × IsWithin (count_of g.types) (length g.introducers) nodes'
Closed g nodes tasks nodes' false = Clashes g nodes (work_of g.rules tasks)

-- a closing up to a number of nodes: where it stopped before its end, some work may be left
abbrev pub ClosedTo : Grammar → Nodes → Tasks → Nodes → Tasks → Progress → Type 0
ClosedTo g nodes tasks nodes' tasks' Stepped =
    Leads g nodes (work_of g.rules tasks) nodes' (work_of g.rules tasks') × AreSound g nodes' tasks'
ClosedTo g nodes tasks nodes' tasks' Clashed = Closed g nodes tasks nodes' false
ClosedTo g nodes tasks nodes' tasks' Ended = Closed g nodes tasks nodes' true
