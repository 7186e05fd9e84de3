-- What the search goes over: the frame, and its tables.
use Rattle.std.specs.Prelude.{ℕ, ◌≡◌, ◌↔◌, ◌⊎◌, true, false, slice_index, slice_index_or, Contains}
use Rattle.scope_model.specs.declared.Opening.{Opening}
use Rattle.scope_model.specs.declared.Quantifier.{Quantifier}
use Rattle.scope_model.specs.declared.Qeq.{Qeq}
use Rattle.scope_model.specs.Frames.{Frame}
use Rattle.scope_model.specs.Readings.{IsHole, Rise}
use Rattle.scope_model.specs.States.{AreApart, HasBodies, HasHoles, HasLabels, AreOnce}
use Rattle.scope_resolve.specs.declared.nets.Parts.{Parts}
use Rattle.scope_resolve.specs.declared.nets.Net.{Net}

abbrev pub frame_in : Parts → Frame
frame_in p = record { top = p.top; labels = p.labels.items; openings = p.openings.items; quantifiers = p.quantifiers.items; bindings = p.bindings.items; qeqs = p.qeqs.items }

-- the holes of quantifiers and bindings are holes, and the labels of holes and bindings are labels
pub record IsLinked (f : Frame) : Type 0 where
  pub bodies : HasBodies f
  pub holes : HasHoles f
  pub labels : HasLabels f

-- the tables are those of the frame, in which no hole stands twice, and whose qeqs end at labels
pub record IsNet (n : Net) : Type 0 where
  pub linked : IsLinked (frame_in n.parts)
  pub apart : AreApart n.parts.openings.items
  pub owner : (o : Opening) → Contains n.parts.openings.items o → slice_index n.owner.items o.hole ≡ o.label
  pub body : (q : Quantifier) → Contains n.parts.quantifiers.items q → slice_index_or n.is_body.items q.body false ≡ true
  pub of_body : (h : ℕ) → slice_index_or n.is_body.items h false ≡ true → (q : Quantifier) × Contains n.parts.quantifiers.items q × (q.body ≡ h)
  pub is_label : (v : ℕ) → (slice_index_or n.is_label.items v false ≡ true) ↔ Contains n.parts.labels.items v
  pub labels : (l : ℕ) → Contains n.labels.items l ↔ Contains n.parts.labels.items l
  pub once : AreOnce n.labels.items
  pub holes : (h : ℕ) → Contains n.holes.items h ↔ IsHole (frame_in n.parts) h
  pub rise : Rise n.holes.items
  pub right : (c : Qeq) → Contains n.parts.qeqs.items c → Contains n.parts.labels.items c.right
  pub top : Contains n.parts.labels.items n.parts.top ⊎ (IsHole (frame_in n.parts) n.parts.top → ⊥)
