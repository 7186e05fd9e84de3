-- A frame with its tables.
use Rattle.std.proofs.Common.{ℕ, ◌≡◌, ◌⊎◌, inl, inr, ◌∙◌, Bool, true, false, List, [], ◌∷◌, map, sym, ap, subst}
use Rattle.std.specs.Prelude.{Contains, ◌↔◌, IsTrue, slice_index, slice_index_or}
use Rattle.scope_model.specs.declared.Opening.{Opening}
use Rattle.scope_model.specs.declared.Quantifier.{Quantifier}
use Rattle.scope_model.specs.declared.Qeq.{Qeq}
use Rattle.scope_model.specs.Frames.{Frame}
use Rattle.scope_model.specs.Readings.{Plugged, IsHole, Rise, IsReading}
use Rattle.scope_model.specs.States.{AreApart}
use Rattle.scope_model.proofs.Lists.{In, in_of, contains_of, of_map}
use Rattle.scope_model.proofs.First.{top_none, holds_at}
use Rattle.scope_resolve.specs.declared.nets.Net.{Net}
use Rattle.scope_resolve.specs.declared.nets.Parts.{Parts}
use Rattle.scope_resolve.specs.Inner.Nets.{IsLinked, IsNet, frame_in}
use Rattle.scope_resolve.proofs.Tabling.{once_of}

in_map : {A B : Type 0} (g : A → B) (xs : List A) (x : A) → In x xs → In (g x) (map g xs)
in_map g [] x i = absurd i
in_map g (y ∷ xs) x (inl e) = inl (ap g e)
in_map g (y ∷ xs) x (inr i) = inr (in_map g xs x i)

abbrev pub AreMarks : List Bool → List ℕ → Type 0
AreMarks ms xs = (v : ℕ) → (slice_index_or ms v false ≡ true) ↔ Contains xs v

-- the marks of one list are those of the other
pub as_marks : (ms : List Bool) (xs ys : List ℕ) → AreMarks ms xs → xs ≡ ys → AreMarks ms ys
as_marks ms xs ys m e = subst (AreMarks ms) e m

pub as_listed : (ms ns : List Bool) (ls : List ℕ) → ((v : ℕ) → Contains ls v ↔ (slice_index_or ms v false ≡ true)) → ms ≡ ns → (v : ℕ) → Contains ls v ↔ (slice_index_or ns v false ≡ true)
as_listed ms ns ls h e = subst (λ (bs : List Bool). (v : ℕ) → Contains ls v ↔ (slice_index_or bs v false ≡ true)) e h

-- the constraints of a list that end at marked labels
abbrev pub EndAt : List Qeq → List Bool → Type 0
EndAt cs ms = (c : Qeq) → Contains cs c → slice_index_or ms c.right false ≡ true

pub as_ends : (r : Bool) (cs ds : List Qeq) (ms ns : List Bool) → IsTrue r ↔ EndAt cs ms → cs ≡ ds → ms ≡ ns → IsTrue r ↔ EndAt ds ns
as_ends r cs ds ms ns h e d = subst (λ (bs : List Bool). IsTrue r ↔ EndAt ds bs) d (subst (λ (xs : List Qeq). IsTrue r ↔ EndAt xs ms) e h)

module _ (parts : Parts) (is_label is_hole : List Bool) (labels : AreMarks is_label parts.labels.items) (holes : AreMarks is_hole (map (λ (o : Opening). o.hole) parts.openings.items)) where
  abbrev f : Frame
  f = frame_in parts

  -- a constraint that doesn't end at a label
  pub none_right : (r : Bool) → r ≡ false → IsTrue r ↔ ((c : Qeq) → Contains parts.qeqs.items c → slice_index_or is_label c.right false ≡ true) → (p : Plugged) → IsReading f p → ⊥
  none_right r e same p read =
      let y : r ≡ true = same.1 (λ c i. (labels c.right).1 (holds_at f p read c i).right) in
      let z : true ≡ false = sym y ∙ e in
      absurd (cc)

  -- TOP is a hole and no label
  pub none_top : slice_index_or is_label parts.top false ≡ false → slice_index_or is_hole parts.top false ≡ true → (p : Plugged) → IsReading f p → ⊥
  none_top e y p read = top_none f p read (λ is. (let z : true ≡ false = sym ((labels parts.top).1 is) ∙ e in absurd (cc))) ((holes parts.top).0 y)

  pub right_all : (r : Bool) → r ≡ true → IsTrue r ↔ ((c : Qeq) → Contains parts.qeqs.items c → slice_index_or is_label c.right false ≡ true) → (c : Qeq) → Contains parts.qeqs.items c → Contains parts.labels.items c.right
  right_all r e same c i = (labels c.right).0 (same.0 e c i)

  pub top_label : slice_index_or is_label parts.top false ≡ true → Contains parts.labels.items parts.top ⊎ (IsHole f parts.top → ⊥)
  top_label y = inl ((labels parts.top).0 y)

  pub top_free : slice_index_or is_hole parts.top false ≡ false → Contains parts.labels.items parts.top ⊎ (IsHole f parts.top → ⊥)
  top_free e = inr (λ is. (let z : true ≡ false = sym ((holes parts.top).1 is) ∙ e in absurd (cc)))

  -- the same of the lists that a call reads
  pub top_over : (ms hs : List Bool) → ms ≡ is_label → hs ≡ is_hole → (slice_index_or ms parts.top false ≡ true) ⊎ (slice_index_or hs parts.top false ≡ false) → Contains parts.labels.items parts.top ⊎ (IsHole f parts.top → ⊥)
  top_over ms hs d e (inl y) = top_label (sym (ap (λ (bs : List Bool). slice_index_or bs parts.top false) d) ∙ y)
  top_over ms hs d e (inr n) = top_free (sym (ap (λ (bs : List Bool). slice_index_or bs parts.top false) e) ∙ n)

  pub none_over : (ms hs : List Bool) → ms ≡ is_label → hs ≡ is_hole → (slice_index_or ms parts.top false ≡ false) × (slice_index_or hs parts.top false ≡ true) → (p : Plugged) → IsReading f p → ⊥
  none_over ms hs d e both = none_top (sym (ap (λ (bs : List Bool). slice_index_or bs parts.top false) d) ∙ both.0) (sym (ap (λ (bs : List Bool). slice_index_or bs parts.top false) e) ∙ both.1)

pub net_from : (n : Net) (is_hole : List Bool) → IsLinked (frame_in n.parts) → AreApart n.parts.openings.items → ((o : Opening) → Contains n.parts.openings.items o → slice_index n.owner.items o.hole ≡ o.label)
    → AreMarks n.is_body.items (map (λ (q : Quantifier). q.body) n.parts.quantifiers.items) → AreMarks n.is_label.items n.parts.labels.items
    → AreMarks is_hole (map (λ (o : Opening). o.hole) n.parts.openings.items)
    → ((v : ℕ) → Contains n.labels.items v ↔ (slice_index_or n.is_label.items v false ≡ true)) → Rise n.labels.items
    → ((v : ℕ) → Contains n.holes.items v ↔ (slice_index_or is_hole v false ≡ true)) → Rise n.holes.items
    → ((c : Qeq) → Contains n.parts.qeqs.items c → Contains n.parts.labels.items c.right) → Contains n.parts.labels.items n.parts.top ⊎ (IsHole (frame_in n.parts) n.parts.top → ⊥) → IsNet n
net_from n is_hole linked apart owner bodies labels holes has_labels labels_rise has_holes holes_rise right top = record {
  linked = linked;
  apart = apart;
  owner = owner;
  body = λ q c. (bodies q.body).1 (contains_of _ q.body (in_map (λ (z : Quantifier). z.body) n.parts.quantifiers.items q (in_of n.parts.quantifiers.items q c)));
  of_body = λ h e. (let r = of_map (λ (z : Quantifier). z.body) h n.parts.quantifiers.items (in_of _ h ((bodies h).0 e)) in (r.0, contains_of n.parts.quantifiers.items r.0 r.1, r.2));
  is_label = labels;
  labels = λ l. (λ c. (labels l).0 ((has_labels l).0 c), λ c. (has_labels l).1 ((labels l).1 c));
  once = once_of n.labels.items labels_rise;
  holes = λ h. (λ c. (holes h).0 ((has_holes h).0 c), λ c. (has_holes h).1 ((holes h).1 c));
  rise = holes_rise;
  right = right;
  top = top;
}
