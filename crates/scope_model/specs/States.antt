-- Pluggings in part, from the top down, and which open hole each further label goes under.
use Rattle.std.specs.Prelude.{All, ℕ, ◌≡◌, ◌≤◌, ◌⊎◌, ◌↔◌, List, [], ◌∷◌, Contains}
use Rattle.scope_model.specs.declared.Opening.{Opening}
use Rattle.scope_model.specs.declared.Quantifier.{Quantifier}
use Rattle.scope_model.specs.declared.Binding.{Binding}
use Rattle.scope_model.specs.declared.Qeq.{Qeq}
use Rattle.scope_model.specs.Frames.{Frame}
use Rattle.scope_model.specs.declared.Plug.{Plug}
use Rattle.scope_model.specs.Readings.{Plugged, IsLabel, IsHole, label_at, times_led, Below, IsReading}

-- the label of the top hole, and what is plugged into holes so far
pub record State : Type 0 where
  pub root : ℕ
  pub plugs : List Plug

-- the label is plugged in
abbrev pub IsPlaced : State → ℕ → Type 0
IsPlaced s l = (l ≡ s.root) ⊎ ((k : Plug) × Contains s.plugs k × (k.label ≡ l))

-- something is plugged into the hole
abbrev pub IsFilled : State → ℕ → Type 0
IsFilled s h = (k : Plug) × Contains s.plugs k × (k.hole ≡ h)

-- an open hole of a label that is plugged in
pub record IsOpen (f : Frame) (s : State) (o : Opening) : Type 0 where
  pub there : Contains f.openings o
  pub placed : IsPlaced s o.label
  pub free : IsFilled s o.hole → ⊥

-- each hole with a plug is one of a label that is plugged in
abbrev pub IsFromTop : Frame → State → Type 0
IsFromTop f s = (k : Plug) → Contains s.plugs k → (o : Opening) × Contains f.openings o × (o.hole ≡ k.hole) × IsPlaced s o.label

-- the plugging goes on from the state
pub record Extends (s : State) (p : Plugged) : Type 0 where
  pub root : p.top ≡ s.root
  pub plugs : (k : Plug) → Contains s.plugs k → label_at p k.hole ≡ k.label

-- nothing leads to the root, and to each label at most one hole
pub record IsLedOnce (f : Frame) (p : Plugged) : Type 0 where
  pub root : times_led f.openings p p.top ≡ 0
  pub once : (l : ℕ) → times_led f.openings p l ≤ 1

-- the label goes under this open hole
pub record GoesUnder (f : Frame) (s : State) (p : Plugged) (o : Opening) (l : ℕ) : Type 0 where
  pub open_hole : IsOpen f s o
  pub below : Below f p (label_at p o.hole) l

-- What holds of each plugging that goes on from a state. A label that isn't plugged in goes under one open hole; whatever must lie at or below a label
-- goes under the same one; something goes under each open hole.
pub record HasHomes (f : Frame) (s : State) (p : Plugged) : Type 0 where
  pub each : (l : ℕ) → Below f p p.top l → IsPlaced s l ⊎ ((o : Opening) × GoesUnder f s p o l)
  pub one : (o k : Opening) (l : ℕ) → GoesUnder f s p o l → GoesUnder f s p k l → o ≡ k
  pub same : (o : Opening) (a l : ℕ) → GoesUnder f s p o a → Below f p a l → GoesUnder f s p o l
  pub filled : (o : Opening) → IsOpen f s o → GoesUnder f s p o (label_at p o.hole)
  pub apart : (o : Opening) (l : ℕ) → GoesUnder f s p o l → IsPlaced s l → ⊥

-- no reading goes on from the state
abbrev pub IsDead : Frame → State → Type 0
IsDead f s = (p : Plugged) → IsReading f p → Extends s p → ⊥

-- The holes that a label may go under: it goes under no other one in a reading that goes on from the state.
abbrev pub IsAllowed : Frame → State → (ℕ → List ℕ) → Type 0
IsAllowed f s allowed = (p : Plugged) → IsReading f p → Extends s p → (o : Opening) (l : ℕ) → GoesUnder f s p o l → Contains (allowed l) o.hole

-- in each reading the second label lies at or below the first one
abbrev pub LiesBelow : Frame → ℕ → ℕ → Type 0
LiesBelow f a l = (p : Plugged) → IsReading f p → Below f p a l

-- labels that go under one hole, whatever the reading is
abbrev pub GoTogether : Frame → State → ℕ → ℕ → Type 0
GoTogether f s a l = (p : Plugged) → IsReading f p → Extends s p → (o : Opening) → GoesUnder f s p o a ↔ GoesUnder f s p o l

abbrev pub state : ℕ → List Plug → State
state root ks = record { root = root; plugs = ks }

-- the plug goes into an open hole of a label that is plugged in, and its label isn't plugged in yet
pub record MayPlug (f : Frame) (s : State) (k : Plug) : Type 0 where
  pub owner : Opening
  pub there : Contains f.openings owner
  pub hole : owner.hole ≡ k.hole
  pub placed : IsPlaced s owner.label
  pub free : IsFilled s k.hole → ⊥
  pub new : IsPlaced s k.label → ⊥

-- plugs from the top down, the last one first
abbrev pub IsTrail : Frame → ℕ → List Plug → Type 0
IsTrail f root [] = Unit {0}
IsTrail f root (k ∷ ks) = IsTrail f root ks × MayPlug f (state root ks) k

-- every label is plugged in, and every hole has a label
pub record IsFull (f : Frame) (s : State) : Type 0 where
  pub labels : (l : ℕ) → IsLabel f l → IsPlaced s l
  pub holes : (o : Opening) → Contains f.openings o → IsFilled s o.hole

-- no hole stands in two roles
abbrev pub AreApart : List Opening → Type 0
AreApart [] = Unit {0}
AreApart (o ∷ os) = ((k : Opening) → Contains os k → k.hole ≡ o.hole → ⊥) × AreApart os

-- the hole is on the way from the label up to the root
pub data IsOnWay (f : Frame) (s : State) (h : ℕ) : ℕ → Type 0 where
  here : (k : Plug) → Contains s.plugs k → k.hole ≡ h → IsOnWay f s h k.label
  up : (k : Plug) (o : Opening) → Contains s.plugs k → Contains f.openings o → o.hole ≡ k.hole → IsOnWay f s h o.label → IsOnWay f s h k.label

-- the first label is on the way up from the second one, through BODYs of quantifiers alone
pub data IsByBodies (f : Frame) (s : State) (a : ℕ) : ℕ → Type 0 where
  none : IsByBodies f s a a
  body : (q : Quantifier) (k : Plug) → Contains f.quantifiers q → Contains s.plugs k → k.hole ≡ q.body → IsByBodies f s a q.label → IsByBodies f s a k.label

-- the BODY of each quantifier is one of the holes of its label
abbrev pub HasBodies : Frame → Type 0
HasBodies f = (q : Quantifier) → Contains f.quantifiers q → (o : Opening) × Contains f.openings o × (o.label ≡ q.label) × (o.hole ≡ q.body)

-- the holes of each binding are holes, and its label is a label
pub record IsHeld (f : Frame) (b : Binding) : Type 0 where
  pub rstr : IsHole f b.rstr
  pub body : IsHole f b.body
  pub label : IsLabel f b.label

-- the label at which a constraint begins, in a state
pub data StartsAt (f : Frame) (s : State) (v : ℕ) : ℕ → Type 0 where
  by_plug : (k : Plug) → Contains s.plugs k → k.hole ≡ v → StartsAt f s v k.label
  by_label : IsLabel f v → StartsAt f s v v
  by_root : v ≡ f.top → (IsHole f v → ⊥) → (IsLabel f v → ⊥) → StartsAt f s v s.root

-- the qeq holds in the state
pub record IsMet (f : Frame) (s : State) (c : Qeq) : Type 0 where
  pub right : IsLabel f c.right
  pub from : ℕ
  pub starts : StartsAt f s c.left from
  pub way : IsByBodies f s from c.right

abbrev pub IsUnder : Frame → State → Binding → Type 0
IsUnder f s b = IsOnWay f s b.rstr b.label ⊎ IsOnWay f s b.body b.label

-- what is asked of a full state, told by the state alone
pub record IsSound (f : Frame) (s : State) : Type 0 where
  pub bindings : All (IsUnder f s) f.bindings
  pub qeqs : All (IsMet f s) f.qeqs
  pub label : IsLabel f f.top → IsByBodies f s s.root f.top
  pub hole : (IsLabel f f.top → ⊥) → (k : Plug) → Contains s.plugs k → k.hole ≡ f.top → s.root ≡ k.label

abbrev pub HasHoles : Frame → Type 0
HasHoles f = (b : Binding) → Contains f.bindings b → IsHeld f b

-- the label of each opening is a label
abbrev pub HasLabels : Frame → Type 0
HasLabels f = (o : Opening) → Contains f.openings o → IsLabel f o.label

-- what is plugged in are labels, and a hole that is a label has that one
pub record IsWellPlugged (f : Frame) (root : ℕ) (ks : List Plug) : Type 0 where
  pub top : IsLabel f root
  pub labels : (k : Plug) → Contains ks k → IsLabel f k.label
  pub own : (k : Plug) → Contains ks k → IsLabel f k.hole → k.label ≡ k.hole

-- no number is there twice
abbrev pub AreOnce : List ℕ → Type 0
AreOnce [] = Unit {0}
AreOnce (l ∷ ls) = (Contains ls l → ⊥) × AreOnce ls
