-- The scoped readings of a frame.
use Rattle.std.specs.Prelude.{ℕ, ◌≡◌, ◌<◌, ◌+◌, ◌==◌, ◌↔◌, ◌⊎◌, if◌then◌else◌, List, [], ◌∷◌, length, map, slice_index, All, Contains}
use Rattle.scope_model.specs.declared.Plug.{Plug}
use Rattle.scope_model.specs.declared.Opening.{Opening}
use Rattle.scope_model.specs.declared.Quantifier.{Quantifier}
use Rattle.scope_model.specs.declared.Binding.{Binding}
use Rattle.scope_model.specs.declared.Qeq.{Qeq}
use Rattle.scope_model.specs.Frames.{Frame}

-- a label for the top hole, and one for each hole
pub record Plugged : Type 0 where
  pub top : ℕ
  pub plugs : List Plug

abbrev pub IsLabel : Frame → ℕ → Type 0
IsLabel f l = Contains f.labels l

abbrev pub holes_of : Frame → List ℕ
holes_of f = map (λ o. o.hole) f.openings

abbrev pub IsHole : Frame → ℕ → Type 0
IsHole f h = Contains (holes_of f) h

-- the label of a hole is the one that is plugged into it; that of a label is that label
abbrev pub label_in : List Plug → ℕ → ℕ
label_in [] v = v
label_in (p ∷ ps) v = if p.hole == v then p.label else label_in ps v

abbrev pub label_at : Plugged → ℕ → ℕ
label_at p v = label_in p.plugs v

abbrev pub Rise : List ℕ → Type 0
Rise ns = (k : ℕ) → k + 1 < length ns → slice_index ns k < slice_index ns (k + 1)

-- Each hole has a label, in rising order of the holes, and a hole that is itself a label has that same label.
pub record IsPlugging (f : Frame) (p : Plugged) : Type 0 where
  pub top : IsLabel f p.top
  pub order : Rise (map (λ s. s.hole) p.plugs)
  pub every : (h : ℕ) → IsHole f h ↔ Contains (map (λ s. s.hole) p.plugs) h
  pub labels : All (λ s. IsLabel f s.label) p.plugs
  pub own : All (λ s. IsLabel f s.hole → s.label ≡ s.hole) p.plugs

-- an elementary predication leads from its label to the label of each of its holes
pub record Leads (f : Frame) (p : Plugged) (a b : ℕ) : Type 0 where
  pub by : Opening
  pub there : Contains f.openings by
  pub from : by.label ≡ a
  pub to : label_at p by.hole ≡ b

-- how often these lead to a label, once for each role
abbrev pub times_led : List Opening → Plugged → ℕ → ℕ
times_led [] p l = 0
times_led (o ∷ os) p l = if label_at p o.hole == l then 1 + times_led os p l else times_led os p l

-- the second label lies at or below the first one
pub data Below (f : Frame) (p : Plugged) : ℕ → ℕ → Type 0 where
  at : (l : ℕ) → Below f p l l
  down : (a n l : ℕ) → Below f p a n → Leads f p n l → Below f p a l

-- Nothing leads to the root, every other label is led to exactly once, and all labels are reached from the root.
pub record IsTree (f : Frame) (p : Plugged) : Type 0 where
  pub root : times_led f.openings p p.top ≡ 0
  pub once : (l : ℕ) → IsLabel f l → (l ≡ p.top) ⊎ (times_led f.openings p l ≡ 1)
  pub reached : (l : ℕ) → IsLabel f l → Below f p p.top l

abbrev pub IsBound : Frame → Plugged → Binding → Type 0
IsBound f p b = Below f p (label_at p b.rstr) b.label ⊎ Below f p (label_at p b.body) b.label

-- a label reaches itself by qeq, and what the label of BODY reaches where it is a quantifier's
pub data Reaches (f : Frame) (p : Plugged) : ℕ → ℕ → Type 0 where
  itself : (l : ℕ) → Reaches f p l l
  by_body : (q : Quantifier) (l : ℕ) → Contains f.quantifiers q → Reaches f p (label_at p q.body) l → Reaches f p q.label l

-- the label at which a constraint begins: that of a hole or label, or the top hole's where TOP is neither
pub data Begins (f : Frame) (p : Plugged) (v : ℕ) : ℕ → Type 0 where
  at_hole : IsHole f v → Begins f p v (label_at p v)
  at_label : IsLabel f v → Begins f p v v
  at_top : v ≡ f.top → (IsHole f v → ⊥) → (IsLabel f v → ⊥) → Begins f p v p.top

pub record Holds (f : Frame) (p : Plugged) (c : Qeq) : Type 0 where
  pub right : IsLabel f c.right
  pub from : ℕ
  pub begins : Begins f p c.left from
  pub reaches : Reaches f p from c.right

pub record IsTopped (f : Frame) (p : Plugged) : Type 0 where
  pub label : IsLabel f f.top → Reaches f p p.top f.top
  pub hole : (IsLabel f f.top → ⊥) → IsHole f f.top → p.top ≡ label_at p f.top

pub record IsReading (f : Frame) (p : Plugged) : Type 0 where
  pub plugging : IsPlugging f p
  pub tree : IsTree f p
  pub binding : All (IsBound f p) f.bindings
  pub qeqs : All (Holds f p) f.qeqs
  pub top : IsTopped f p
