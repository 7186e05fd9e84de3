-- What a rule makes of its daughters.
use Rattle.std.specs.Prelude.{ℕ, Option, Some, None, List, length}
use Rattle.fs_model.specs.Claims.{Path, Claim, at, System}
use Rattle.fs_model.specs.Closure.{Closure, AreConsistent}
use Rattle.fs_model.specs.Sources.{Source, Told}
use Rattle.tree_model.specs.Cuts.{Cut, Kept, Trimmed}
use Rattle.tree_model.specs.Structures.{Structure, Beside, Says, IsStructureOf}

-- a rule's own facts, and the place of each of its daughters
pub record Rule : Type 0 where
  pub facts : Source
  pub places : List Path

-- a type system with rules; what a mother loses, her daughters, and what an abstract structure lacks
pub record RuleSystem : Type 0 where
  pub system : System
  -- each path that may be
  pub paths : List Path
  pub rules : List Rule
  pub daughters : Cut
  pub restrictors : Cut

abbrev pub daughters_cut : RuleSystem → Cut
daughters_cut g = g.daughters

abbrev pub restrictors_cut : RuleSystem → Cut
restrictors_cut g = g.restrictors

-- the rule's facts, with each daughter at its place
pub data Parts (ps : List Path) (rule : Rule) (ms : List Structure) : Claim → Type 0 where
  of_rule : (c : Claim) → Told rule.facts c → Parts ps rule ms c
  of_daughter : (place : Path) (m : Structure) (c : Claim) → Beside place m rule.places ms → Says ps m c → Parts ps rule ms (at place c)

-- A structure as data is the part of a closure on the paths that a cut keeps. It stands for the closure of what it says,
-- which is the closure of that part; of two such closures the one lies in the other where the one part lies in the other.
module _ (g : RuleSystem) where
  -- what a structure stands for
  abbrev pub Meant : Structure → Claim → Type 0
  Meant m = Closure g.system (Says g.paths m)

  -- a rule with these daughters, and what it is without them
  abbrev pub Whole : Rule → List Structure → Claim → Type 0
  Whole rule ms = Closure g.system (Parts g.paths rule ms)

  abbrev pub Mother : Rule → List Structure → Claim → Type 0
  Mother rule ms = Trimmed g.system (daughters_cut g) (Whole rule ms)

  -- the abstraction of a closure: what it is without restrictors
  abbrev pub Abstract : (Claim → Type 0) → Claim → Type 0
  Abstract claims = Trimmed g.system (restrictors_cut g) claims

  abbrev pub Applies : Rule → List Structure → Type 0
  Applies rule ms = AreConsistent g.system (Whole rule ms)

  -- the full structure of a mother, by the part of it that isn't a daughter's
  abbrev pub IsFull : Rule → List Structure → Structure → Type 0
  IsFull rule fs f = Applies rule fs × IsStructureOf g.system g.paths (Kept (daughters_cut g) (Whole rule fs)) f

  -- the abstract structure of a closure, by the part of it that has no restrictor
  abbrev pub IsAbstract : (Claim → Type 0) → Structure → Type 0
  IsAbstract claims m = IsStructureOf g.system g.paths (Kept (restrictors_cut g) claims) m

  abbrev pub IsShape : Rule → List Structure → Structure → Type 0
  IsShape rule ms m = Applies rule ms × IsAbstract (Mother rule ms) m

  -- a shape subsumes the abstraction of a full structure
  abbrev pub Agrees : Structure → Structure → Type 0
  Agrees m f = (c : Claim) → Says g.paths m c → Abstract (Meant f) c

  -- by the number of a rule
  abbrev pub AppliesAt : Option Rule → List Structure → Type 0
  AppliesAt None ms = ⊥
  AppliesAt (Some rule) ms = Applies rule ms

  abbrev pub IsShapeAt : Option Rule → List Structure → Structure → Type 0
  IsShapeAt None ms m = ⊥
  IsShapeAt (Some rule) ms m = IsShape rule ms m

  abbrev pub IsFullAt : Option Rule → List Structure → Structure → Type 0
  IsFullAt None fs f = ⊥
  IsFullAt (Some rule) fs f = IsFull rule fs f

  abbrev pub arity_at : Option Rule → ℕ
  arity_at None = 1
  arity_at (Some rule) = length rule.places
