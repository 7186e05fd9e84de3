-- Which open holes each label may go under, and which labels are tried in one.
use Rattle.std.specs.Prelude.{ℕ, ◌≡◌, ◌==◌, ◌↔◌, ◌⊎◌, Bool, true, false, if◌then◌else◌, List, [], ◌∷◌, ◌++◌, length, drop, slice_index_or, Contains}
use Rattle.scope_model.specs.declared.Opening.{Opening}
use Rattle.scope_model.specs.Frames.{Frame}
use Rattle.scope_model.specs.Readings.{Plugged, IsLabel, IsReading, Below, Reaches, label_at}
use Rattle.scope_model.specs.States.{State, IsPlaced, IsOpen, IsFromTop, Extends, GoesUnder, HasBodies, LiesBelow, AreOnce}
use Rattle.scope_resolve.specs.declared.hole_set.HoleSet.{HoleSet}
use Rattle.scope_resolve.specs.declared.plan.Under.{Under}
use Rattle.scope_resolve.specs.declared.plan.Link.{Link}
use Rattle.scope_resolve.specs.declared.plan.Plan.{Plan}
use Rattle.scope_resolve.specs.declared.ways.Ways.{Ways}
use Rattle.scope_resolve.specs.Inner.Filling.{IsOpenAt}
use Rattle.scope_resolve.specs.Inner.Masks.{has, set_at, IsAt, AreBelow, AreReached}

-- the hole is one of the label
abbrev pub IsHoleOf : Frame → ℕ → ℕ → Type 0
IsHoleOf f hole label = (o : Opening) × Contains f.openings o × (o.hole ≡ hole) × (o.label ≡ label)

-- in each reading the label lies under one of the two holes of its owner
pub record IsUnderIn (f : Frame) (u : Under) : Type 0 where
  pub owner : IsLabel f u.owner
  pub label : IsLabel f u.label
  pub first : IsHoleOf f u.first u.owner
  pub second : IsHoleOf f u.second u.owner
  pub below : (p : Plugged) → IsReading f p → Below f p (label_at p u.first) u.label ⊎ Below f p (label_at p u.second) u.label

-- in each reading the one is reached from the label in the hole through BODYs alone
abbrev pub IsHoleChain : Frame → Link → Type 0
IsHoleChain f k = (p : Plugged) → IsReading f p → Reaches f p (label_at p k.from) k.to

-- from the label
pub record IsLabelChain (f : Frame) (k : Link) : Type 0 where
  pub from : IsLabel f k.from
  pub reaches : (p : Plugged) → IsReading f p → Reaches f p k.from k.to

-- from the root
abbrev pub IsRootChain : Frame → ℕ → Type 0
IsRootChain f l = (p : Plugged) → IsReading f p → Reaches f p p.top l

-- in each reading the one label lies at or below the other
pub record IsPair (f : Frame) (k : Link) : Type 0 where
  pub from : IsLabel f k.from
  pub to : IsLabel f k.to
  pub below : LiesBelow f k.from k.to

abbrev pub ArePairs : Frame → List Link → Type 0
ArePairs f ks = (k : Link) → Contains ks k → IsPair f k

-- what the plan says holds in each reading
pub record IsPlan (f : Frame) (p : Plan) : Type 0 where
  pub unders : (k : Under) → Contains p.unders.items k → IsUnderIn f k
  pub holes : (k : Link) → Contains p.hole_chains.items k → IsHoleChain f k
  pub labels : (k : Link) → Contains p.label_chains.items k → IsLabelChain f k
  pub root : (l : ℕ) → Contains p.root_chains.items l → IsRootChain f l
  pub pairs : ArePairs f p.pairs.items

-- the tables are those of the state
pub record IsSeen (f : Frame) (s : State) (w : Ways) : Type 0 where
  pub top : IsFromTop f s
  pub bodies : HasBodies f
  pub opens : (o : Opening) → Contains w.opens.items o ↔ IsOpen f s o
  pub below : AreBelow f s w.opens.items w.below.items
  pub chain : AreReached f s w.opens.items w.chain.items
  pub placed : (l : ℕ) → IsLabel f l → (slice_index_or w.placed.items l false ≡ true) ↔ IsPlaced s l

-- in some reading that goes on from the state the label goes under the open hole at this place
pub record MayGo (f : Frame) (s : State) (opens : List Opening) (l place : ℕ) : Type 0 where
  pub plugged : Plugged
  pub reading : IsReading f plugged
  pub on : Extends s plugged
  pub opening : Opening
  pub there : IsAt opens place opening
  pub under : GoesUnder f s plugged opening l

-- the mask of each label has the open holes that it may go under
abbrev pub AreMasks : Frame → State → List Opening → List HoleSet → Type 0
AreMasks f s opens sets = (l place : ℕ) → MayGo f s opens l place → has (set_at sets l) place ≡ true

-- the mask of each label has the open holes that it may be plugged into
abbrev pub AreSeats : Frame → State → List Opening → List HoleSet → Type 0
AreSeats f s opens sets = (p : Plugged) → IsReading f p → Extends s p → (place : ℕ) (o : Opening) → IsAt opens place o → has (set_at sets (label_at p o.hole)) place ≡ true

-- labels to be tried in an open hole: each once, none plugged in yet, and each reading that goes on has one of them there
pub record AreCandidates (f : Frame) (s : State) (hole : ℕ) (cs : List ℕ) : Type 0 where
  pub once : AreOnce cs
  pub labels : (l : ℕ) → Contains cs l → IsLabel f l
  pub new : (l : ℕ) → Contains cs l → IsPlaced s l → ⊥
  pub own : (l : ℕ) → Contains cs l → IsLabel f hole → l ≡ hole
  pub all : (p : Plugged) → IsReading f p → Extends s p → Contains cs (label_at p hole)

-- the stack has these candidates of an open hole after what was there
pub record ArePut (f : Frame) (s : State) (hole : ℕ) (old new : List ℕ) : Type 0 where
  pub open_hole : IsOpenAt f s hole
  pub is : new ≡ old ++ drop (length old) new
  pub are : AreCandidates f s hole (drop (length old) new)

-- a hole that is itself a label is given that label
abbrev pub suits : List Bool → ℕ → ℕ → Bool
suits is_label hole l = if slice_index_or is_label hole false then l == hole else true

-- the label isn't plugged in, has the hole in its mask, and suits it
abbrev pub may_stand : List Bool → List HoleSet → List Bool → ℕ → ℕ → ℕ → Bool
may_stand placed sets is_label place hole l = if slice_index_or placed l false then false else (if has (set_at sets l) place then suits is_label hole l else false)

-- those that pass a test
abbrev pub those : (ℕ → Bool) → List ℕ → List ℕ
those test [] = []
those test (l ∷ ls) = if test l then l ∷ those test ls else those test ls
