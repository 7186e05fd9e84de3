-- The search from the top down.
use Rattle.std.specs.Prelude.{ℕ, ◌≡◌, ◌<◌, ◌≤◌, Bool, true, false, List, [], ◌∷◌, ◌++◌, length, map, reverse, Contains}
use Rattle.scope_model.specs.declared.Opening.{Opening}
use Rattle.scope_model.specs.declared.Plug.{Plug}
use Rattle.scope_model.specs.Frames.{Frame}
use Rattle.scope_model.specs.Readings.{Plugged, IsReading, label_at}
use Rattle.scope_model.specs.States.{State, state, IsOpen, IsTrail, IsWellPlugged, Extends}
use Rattle.scope_resolve.specs.declared.trail.Trail.{Trail}
use Rattle.mrs_text.specs.Written.{or_zero}
use Rattle.scope_resolve.specs.Inner.Ways.{plugged_at}

-- the plugs, the last one first
abbrev pub path : Trail → List Plug
path t = reverse t.plugs.items

abbrev pub state_of : Trail → State
state_of t = state t.root (path t)

-- a hole with its label
abbrev pub plug_here : List Plug → ℕ → Plug
plug_here ks h = record { hole = h; label = or_zero (plugged_at h ks) }

-- these holes with their labels
abbrev pub plugged_here : Trail → List ℕ → Plugged
plugged_here t hs = record { top = t.root; plugs = map (plug_here (path t)) hs }

-- plugs of labels from the top down
pub record IsGoing (f : Frame) (t : Trail) : Type 0 where
  pub trail : IsTrail f t.root (path t)
  pub well : IsWellPlugged f t.root (path t)

pub record IsKept (a b : Trail) : Type 0 where
  pub root : a.root ≡ b.root
  pub plugs : a.plugs.items ≡ b.plugs.items

-- some open hole is this one
pub record IsOpenAt (f : Frame) (s : State) (hole : ℕ) : Type 0 where
  pub opening : Opening
  pub open_hole : IsOpen f s opening
  pub is : opening.hole ≡ hole

-- none stands twice
abbrev pub AreDistinct : List Plugged → Type 0
AreDistinct [] = Unit {0}
AreDistinct (p ∷ ps) = (Contains ps p → ⊥) × AreDistinct ps

-- To what was found came readings of the kind P, each once: all of them, where it is done, otherwise so many that there are more than `max`.
pub record AreFound (f : Frame) (P : Plugged → Type 0) (max : ℕ) (done : Bool) (old new : List Plugged) : Type 0 where
  pub more : List Plugged
  pub is : new ≡ old ++ more
  pub are : (p : Plugged) → Contains more p → IsReading f p × P p
  pub once : AreDistinct more
  pub all : done ≡ true → (p : Plugged) → IsReading f p → P p → Contains more p
  pub over : done ≡ false → max < length new
  pub few : done ≡ true → length old ≤ max → length new ≤ max

-- the readings that go on from a state
abbrev pub GoesOn : State → Plugged → Type 0
GoesOn s p = Extends s p

-- those of them that have this label in the hole
abbrev pub HasAt : State → ℕ → ℕ → Plugged → Type 0
HasAt s hole label p = Extends s p × (label_at p hole ≡ label)

-- those that have one of these
abbrev pub HasOneOf : State → ℕ → List ℕ → Plugged → Type 0
HasOneOf s hole labels p = Extends s p × Contains labels (label_at p hole)

-- those with this label at the top
abbrev pub HasRoot : ℕ → Plugged → Type 0
HasRoot root p = p.top ≡ root

abbrev pub HasRootIn : List ℕ → Plugged → Type 0
HasRootIn labels p = Contains labels p.top

abbrev pub IsAny : Plugged → Type 0
IsAny p = Unit {0}
