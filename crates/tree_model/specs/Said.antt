-- The facts of a structure, as a list of claims. Two graphs of one structure have the same facts in this form.
use Rattle.std.specs.Prelude.{ℕ, ◌≡◌, ◌↔◌, Bool, true, false, Option, Some, None, List, [], ◌∷◌, ◌++◌}
use Rattle.fs_model.specs.Claims.{Path, Claim, same, below, System}
use Rattle.fs_model.specs.Closure.{Closure, IsConsistent}
use Rattle.fs_model.specs.Sources.{Reader, Source, Told, IsSameStructure}
use Rattle.tree_model.specs.Structures.{Structure, Says, pairs_of}
use Rattle.tree_model.specs.Cuts.{Cut}
use Rattle.tree_model.specs.Mothers.{Rule}
use Rattle.tree_model.specs.Views.{view, IsInside, IsTrimmed, source_of, source_alone}

-- the type of each path that exists
abbrev pub type_claims : List Path → List (Option ℕ) → List Claim
type_claims [] ts = []
type_claims (p ∷ ps) [] = []
type_claims (p ∷ ps) (None ∷ ts) = type_claims ps ts
type_claims (p ∷ ps) (Some t ∷ ts) = below p t ∷ type_claims ps ts

-- the paths that are equal
abbrev pub equal_claims : List (Path × Path) → List Bool → List Claim
equal_claims [] bs = []
equal_claims (pq ∷ pqs) [] = []
equal_claims (pq ∷ pqs) (false ∷ bs) = equal_claims pqs bs
equal_claims (pq ∷ pqs) (true ∷ bs) = same pq.0 pq.1 ∷ equal_claims pqs bs

-- what a structure says of the paths that may be
abbrev pub source_said : List Path → Structure → Source
source_said ps m = record { claims = type_claims ps m.types ++ equal_claims (pairs_of ps) m.equal; parts = [] }

-- a rule whose facts are those of a graph, as a graph and as claims
abbrev pub rule_alone : Reader → List Path → Rule
rule_alone r places = record { facts = source_alone r; places = places }

abbrev pub rule_said : List Path → Reader → List Path → Rule
rule_said ps r places = record { facts = source_said ps (view ps r); places = places }

-- The list holds what the structure says.
abbrev pub SaidIsSays : Type 0
SaidIsSays = (ps : List Path) (m : Structure) (c : Claim) → Told (source_said ps m) c ↔ Says ps m c

-- A graph and what its structure says have one closure, alone and with daughters.
abbrev pub SaidCloses : Type 0
SaidCloses = (s : System) (ps : List Path) (r : Reader) (places : List Path) (rs : List Reader) → IsInside ps r → (c : Claim) →
    Closure s (Told (source_of (rule_alone r places) rs)) c ↔ Closure s (Told (source_of (rule_said ps r places) rs)) c

-- So unification with cuts answers the same for both.
abbrev pub SaidTrims : Type 0
SaidTrims = (s : System) (ps : List Path) (r : Reader) (places : List Path) (rs : List Reader) → IsInside ps r → (cuts : List Cut) (last : Cut) (o : Option Reader) →
    IsTrimmed s (source_of (rule_alone r places) rs) cuts last o → IsTrimmed s (source_of (rule_said ps r places) rs) cuts last o

abbrev pub SaidIsConsistent : Type 0
SaidIsConsistent = (s : System) (ps : List Path) (r : Reader) (places : List Path) (rs : List Reader) → IsInside ps r →
    IsConsistent s (Told (source_of (rule_alone r places) rs)) ↔ IsConsistent s (Told (source_of (rule_said ps r places) rs))

-- Graphs of one structure have one view.
abbrev pub SameViews : Type 0
SameViews = (ps : List Path) (a b : Reader) → IsSameStructure a b → view ps a ≡ view ps b
