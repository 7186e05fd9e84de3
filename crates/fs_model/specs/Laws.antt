-- What is proved of closures, tables and numbered graphs.
use Rattle.std.specs.Prelude.{ℕ, ◌≡◌, ◌≢◌, ◌<◌, ◌≤◌, ◌+◌, Bool, Option, Some, None, List, [], ◌∷◌, ◌++◌, length}
use Rattle.fs_model.specs.Claims.{Path, Claim, exists_at, at, System, IsOrder, IsBare, FactsAreWritten, Has}
use Rattle.fs_model.specs.Closure.{Closure, IsConsistent}
use Rattle.fs_model.specs.Listed.{FormsAgree}
use Rattle.fs_model.specs.Sources.{Reader, IsSameStructure, Subsumes, Tells, Part, Source, Told, IsUnified, IsSameAnswer}
use Rattle.fs_model.specs.Table.{Table, IsTable, NodeClaim, is_same, is_under, from, Follows, walk}
use Rattle.fs_model.specs.Steps.{InTable, before, head, Closes, Starts, StandsIn, Grows, Links, Merges, Lowers, Joins}
use Rattle.fs_model.specs.Numbering.{seen, IsNumbered, HasHeights, IsSameTable, IsMatching}

-- each claim of the one source follows from the other
abbrev pub FollowsFrom : System → Source → Source → Type 0
FollowsFrom s less more = (c : Claim) → Told less c → Closure s (Told more) c

-- more claims give a larger closure
abbrev pub ClosureGrows : Type 0
ClosureGrows =
    (s : System) (less more : Source) → FollowsFrom s less more → (c : Claim) → Closure s (Told less) c → Closure s (Told more) c

-- what is consistent with more claims is consistent with fewer
abbrev pub ConsistencyFalls : Type 0
ConsistencyFalls =
    (s : System) (less more : Source) → FollowsFrom s less more → IsConsistent s (Told more) → IsConsistent s (Told less)

-- the two forms of the rule of inference agree
abbrev pub ListsAgree : Type 0
ListsAgree =
    (s : System) → IsOrder s → IsBare s → (written : ℕ → Bool) → FactsAreWritten s written → (source : Source) →
    FormsAgree s written (Told source)

-- unification has one answer
abbrev pub AnswerIsOne : Type 0
AnswerIsOne =
    (s : System) → IsOrder s → (source : Source) (a b : Option Reader) → IsUnified s source a → IsUnified s source b → IsSameAnswer a b

-- The steps of closing a table. Each takes the first claim of the work.

-- the table of one node, with the given claims as its work, stands for them
abbrev pub TablesStart : Type 0
TablesStart =
    (s : System) → IsBare s → (source : Source) (t : Table) → Starts s t → Closure s (Told source) (exists_at []) →
    (work : List NodeClaim) → ((c : Claim) → Told source c → Has (from 0 c) work) →
    ((c : NodeClaim) → Has c work → (d : Claim) × Told source d × (c ≡ from 0 d)) → Closes s (Told source) t work (λ _. [])

-- what a graph claims at its place follows where the graph stands in the table, and its first node is to be at the place
abbrev pub PartsFollow : Type 0
PartsFollow =
    (s : System) (t : Table) (work : List NodeClaim) (part : Part) (entry : ℕ) (to : ℕ → ℕ) → IsTable t → entry < t.size →
    StandsIn t part.reader entry to → Has (is_same 0 part.place entry []) work → (c : Claim) → Tells part.reader c →
    Follows s t work (from 0 (at part.place c))

-- a claim goes one arc on
abbrev pub WorkAdvances : Type 0
WorkAdvances =
    (s : System) (source : Source) (t : Table) (c : NodeClaim) (rest : List NodeClaim) (w : ℕ → Path) (n f : ℕ) → n < t.size →
    t.arc (t.live n) f ≡ Some (head c) → InTable t.size c → Closes s (Told source) t (before n f c ∷ rest) w →
    Closes s (Told source) t (c ∷ rest) w

-- a claim that follows from the rest goes
abbrev pub WorkDrops : Type 0
WorkDrops =
    (s : System) (source : Source) (t : Table) (c : NodeClaim) (rest : List NodeClaim) (w : ℕ → Path) → Follows s t rest c →
    Closes s (Told source) t (c ∷ rest) w → Closes s (Told source) t rest w

-- a missing arc leads to a new node, whose path is one feature longer
abbrev pub TableGrows : Type 0
TableGrows =
    (s : System) → IsBare s → (source : Source) (t t' : Table) (c : NodeClaim) (rest : List NodeClaim) (w w' : ℕ → Path) (n f : ℕ) → n < t.size →
    Grows s.top t t' (t.live n) f → t.arc (t.live n) f ≡ None → head c ≡ t.size → InTable (t.size + 1) c →
    ((k : ℕ) → k < t.size → w' k ≡ w k) → w' t.size ≡ w (t.live n) ++ f ∷ [] → Closes s (Told source) t (before n f c ∷ rest) w →
    Closes s (Told source) t' (c ∷ is_under (t.live n) [] (s.introducer f) ∷ rest) w'

-- a missing arc leads to a node that is there
abbrev pub TableLinks : Type 0
TableLinks =
    (s : System) (source : Source) (t t' : Table) (rest : List NodeClaim) (w : ℕ → Path) (n f m : ℕ) → n < t.size → m < t.size →
    Links t t' (t.live n) f m → t.arc (t.live n) f ≡ None → Closes s (Told source) t (is_same n (f ∷ []) m [] ∷ rest) w →
    Closes s (Told source) t' (is_under (t.live n) [] (s.introducer f) ∷ rest) w

-- two equal nodes become one
abbrev pub TableMerges : Type 0
TableMerges =
    (s : System) (source : Source) (t t' : Table) (rest work' : List NodeClaim) (w : ℕ → Path) (n m : ℕ) → n < t.size → m < t.size →
    t.live n ≢ t.live m → Merges t t' rest work' (t.live n) (t.live m) → Closes s (Told source) t (is_same n [] m [] ∷ rest) w →
    Closes s (Told source) t' work' w

-- a node's type becomes its meet with another
abbrev pub TableLowers : Type 0
TableLowers =
    (s : System) → IsOrder s → (source : Source) (t t' : Table) (rest work' : List NodeClaim) (w : ℕ → Path) (n u v : ℕ) → n < t.size →
    Lowers s t t' rest work' (t.live n) u v → Closes s (Told source) t (is_under n [] u ∷ rest) w → Closes s (Told source) t' work' w

-- two equal nodes become one, of the meet of their types
abbrev pub TableJoins : Type 0
TableJoins =
    (s : System) → IsOrder s → (source : Source) (t t' : Table) (rest work' : List NodeClaim) (w : ℕ → Path) (n m v : ℕ) → n < t.size → m < t.size →
    t.live n ≢ t.live m → Joins s t t' rest work' (t.live n) (t.live m) v → Closes s (Told source) t (is_same n [] m [] ∷ rest) w →
    Closes s (Told source) t' work' w

-- two types at a node without a meet
abbrev pub TypesClash : Type 0
TypesClash =
    (s : System) (source : Source) (t : Table) (rest : List NodeClaim) (w : ℕ → Path) (n u : ℕ) → n < t.size →
    Closes s (Told source) t (is_under n [] u ∷ rest) w → s.meet (t.type_of (t.live n)) u ≡ None → IsUnified s source None

-- a node whose path is too long
abbrev pub PathsClash : Type 0
PathsClash =
    (s : System) (source : Source) (t : Table) (work : List NodeClaim) (w : ℕ → Path) (n : ℕ) → n < t.size →
    Closes s (Told source) t work w → s.path_limit < length (w n) → IsUnified s source None

-- a walk that is too long, in a table without work
abbrev pub WalksClash : Type 0
WalksClash =
    (s : System) → IsOrder s → (source : Source) (t : Table) (w : ℕ → Path) (p : Path) (n : ℕ) → Closes s (Told source) t [] w →
    walk t 0 p ≡ Some n → s.path_limit < length p → IsUnified s source None

-- a cycle, in a table without work
abbrev pub CyclesClash : Type 0
CyclesClash =
    (s : System) → IsOrder s → (source : Source) (t : Table) (w : ℕ → Path) (p q : Path) (n : ℕ) → Closes s (Told source) t [] w →
    walk t 0 p ≡ Some n → q ≢ [] → walk t n q ≡ Some n → IsUnified s source None

-- a table without work whose heights are within the limit is the structure of the closure
abbrev pub TableIsUnified : Type 0
TableIsUnified =
    (s : System) → IsOrder s → (source : Source) (t : Table) (w : ℕ → Path) (height : ℕ → ℕ) → Closes s (Told source) t [] w →
    HasHeights t height → height (t.live 0) ≤ s.path_limit → IsUnified s source (Some (seen t))

-- Graphs.

-- two numbered tables are one structure only where they have the same nodes, types and arcs
abbrev pub NumbersAreOne : Type 0
NumbersAreOne =
    (t u : Table) (a b : ℕ → Path) → IsNumbered t a → IsNumbered u b → IsSameStructure (seen t) (seen u) → IsSameTable t u

-- a map of nodes shows subsumption
abbrev pub MatchingSubsumes : Type 0
MatchingSubsumes =
    (s : System) (general special : Table) (a b : ℕ → Path) (to : ℕ → ℕ) → IsNumbered general a → IsNumbered special b →
    IsMatching s general special to → Subsumes s (seen general) (seen special)
