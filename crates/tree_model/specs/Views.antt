-- Graphs as structures, and what unification with cuts answers.
use Rattle.std.specs.Prelude.{ℕ, ◌≡◌, if◌then◌else◌, ◌==◌, ◌↔◌, ◌++◌, Bool, true, false, Option, Some, None, List, [], ◌∷◌, map}
use Rattle.fs_model.specs.Claims.{Path, Claim, exists_at, same, below, System, Has}
use Rattle.fs_model.specs.Closure.{Closure, IsConsistent}
use Rattle.fs_model.specs.Sources.{Reader, Part, Source, Told, IsSameStructure}
use Rattle.tree_model.specs.Structures.{Structure, pairs_of}
use Rattle.tree_model.specs.Cuts.{Cut, Kept, is_kept, Trims}
use Rattle.tree_model.specs.Mothers.{Rule}

abbrev pub view_type : Reader → Option ℕ → Option ℕ
view_type r None = None
view_type r (Some n) = Some (r.type_of n)

abbrev pub same_node : Option ℕ → Option ℕ → Bool
same_node None m = false
same_node (Some n) None = false
same_node (Some n) (Some m) = n == m

-- the structure that a graph is, on the paths that may be
abbrev pub view : List Path → Reader → Structure
view ps r = record { types = map (λ p. view_type r (r.node_at p)) ps; equal = map (λ pq. same_node (r.node_at pq.0) (r.node_at pq.1)) (pairs_of ps) }

-- each path of the graph is one that may be
abbrev pub IsInside : List Path → Reader → Type 0
IsInside ps r = (p : Path) (n : ℕ) → r.node_at p ≡ Some n → Has p ps

-- a graph shows these claims: their paths, their equalities, and at each path the least of its types
pub record Shows (s : System) (claims : Claim → Type 0) (r : Reader) : Type 0 where
  pub paths : (p : Path) → claims (exists_at p) ↔ ((n : ℕ) × (r.node_at p ≡ Some n))
  pub equalities : (p q : Path) → claims (same p q) ↔ ((n : ℕ) × (r.node_at p ≡ Some n) × (r.node_at q ≡ Some n))
  pub types_there : (p : Path) (n : ℕ) → r.node_at p ≡ Some n → claims (below p (r.type_of n))
  pub types_above : (p : Path) (n t : ℕ) → r.node_at p ≡ Some n → claims (below p t) → s.is_below (r.type_of n) t ≡ true

-- what unification with cuts answers: none exactly where the closure is inconsistent, and otherwise what the last cut keeps
-- after the cuts before it, each closed again
abbrev pub IsTrimmed : System → Source → List Cut → Cut → Option Reader → Type 0
IsTrimmed s source cuts last None = IsConsistent s (Told source) → ⊥
IsTrimmed s source cuts last (Some r) = IsConsistent s (Told source) × Shows s (Kept last (Trims s cuts (Closure s (Told source)))) r

abbrev pub parts_at : List Path → List Reader → List Part
parts_at [] rs = []
parts_at (p ∷ ps) [] = []
parts_at (p ∷ ps) (r ∷ rs) = record { place = p; reader = r } ∷ parts_at ps rs

-- a rule's facts, with a graph at each place
abbrev pub source_of : Rule → List Reader → Source
source_of rule rs = record { claims = rule.facts.claims; parts = rule.facts.parts ++ parts_at rule.places rs }

-- one graph alone
abbrev pub source_alone : Reader → Source
source_alone r = record { claims = []; parts = record { place = []; reader = r } ∷ [] }

-- each graph of the list is inside
pub data AllInside (ps : List Path) : List Reader → Type 0 where
  inside_none : AllInside ps []
  inside_more : {r : Reader} {rs : List Reader} → IsInside ps r → AllInside ps rs → AllInside ps (r ∷ rs)

-- a graph without what a cut cuts off
abbrev pub without : Cut → Reader → Reader
without cut r = record { node_at = λ p. if is_kept cut p then r.node_at p else None; type_of = r.type_of }

-- one graph is what a cut keeps of the other
abbrev pub IsKeptOf : Cut → Reader → Reader → Type 0
IsKeptOf cut r kept = IsSameStructure (without cut r) kept
