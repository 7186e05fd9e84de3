-- The rules that stand over a tree that is read.
use Rattle.std.proofs.Common.{◌≡◌, ℕ, true, false, List, [], ◌∷◌, ◌++◌, length, Option, Some, None, is_some, unwrap_or, option_map, refl, sym, ap, subst, ◌∙◌, append_assoc, append-nil, ◌<◌, ◌≤◌, ◌+◌, inr, arith, ltb, ltb-true, ltb-false}
use Rattle.std.specs.List.{All}
use Rattle.std.proofs.lemmas.Bool.{false≢true}
use Rattle.std.proofs.lemmas.List.Elements.{All-push, All-cons, All-head, All-tail}
use Rattle.derivation.specs.Trees.{Derivation}
use Rattle.derivation.specs.Text.{name_of}
use Rattle.tree_reading.specs.declared.uses.Rules.{Rules}
use Rattle.tree_reading.specs.declared.uses.Phrase.{Phrase}
use Rattle.tree_reading.specs.declared.opening.Open.{Open}
use Rattle.tree_reading.specs.declared.closing.Child.{Child}
use Rattle.tree_reading.specs.Grammars.{TreeGrammar, IsNamedWell, HasEntry, AreOver}
use Rattle.tree_reading.specs.Texts.{ArePreferred}
use Rattle.tree_reading.specs.Inner.Shapes.{Shape, Shapes, node, none, more, joined, count, text, texts, shape, shapes, Begins}
use Rattle.tree_reading.specs.Inner.Frames.{Frame, AreFrames, IsReady, IsAllowed, front, is_wide, frame_of, frames_of, trees_of, place_of, AreRead}
use Rattle.tree_reading.specs.Inner.Closed.{IsGood, IsChildCounted, tree_of, closed, with_last}
use Rattle.tree_reading.specs.Inner.Begun.{IsBefore, IsAfter, AreCountedIn, room_after}
use Rattle.tree_reading.specs.Inner.Stops.{Fails, IsText}
use Rattle.tree_reading.proofs.Framing.{front_step, count_joined}
use Rattle.tree_reading.proofs.Decoding.{texts_joined, node_text}
use Rattle.tree_reading.proofs.Overs.{over_shape, count_shapes}
use Rattle.tree_reading.proofs.Pushing.{frames_push, count_trees}
use Rattle.tree_reading.proofs.Making.{made, none_made, shapes_last, over_last, preferred_last}
use Rattle.tree_reading.proofs.Faults.{fails}
use Rattle.tree_reading.proofs.Tops.{stop_after, not_closed, not_gone, nothing_behind}
use Rattle.tree_reading.proofs.Going.{joined_shapes}

-- what is known after a tree that stands in a rule
pub record Under (g : TreeGrammar) (os : List Open) (o : Open) (child : Child) (whole rest : List ℕ) : Type 0 where
  pub frames : AreFrames g (frame_of g.names o ∷ frames_of g.names os)
  pub read : AreRead g o
  pub reads : All (AreRead g) os
  pub good : IsGood g child
  pub allowed : IsAllowed g (is_some o.rules.phrase) (shape g.names (tree_of child))
  pub is : front (frame_of g.names o ∷ frames_of g.names os) ++ (text (shape g.names (tree_of child)) ++ rest) ≡ whole

all_last : (g : TreeGrammar) (os : List Open) (o : Open) → All (AreRead g) (os ++ o ∷ []) → AreRead g o × All (AreRead g) os
all_last g [] o h = (All-head (AreRead g) o [] h, λ k d lt. absurd (omega (arith, lt)))
all_last g (p ∷ os) o h =
    let r = all_last g os o (All-tail (AreRead g) p (os ++ o ∷ []) h) in
    (r.0, All-cons (AreRead g) p os (All-head (AreRead g) p (os ++ o ∷ []) h) r.1)

pub under : (g : TreeGrammar) (os : List Open) (o : Open) (child : Child) (whole rest : List ℕ) → IsAfter g (os ++ o ∷ []) child whole rest → Under g os o child whole rest
under g os o child whole rest h =
    let e = frames_push g.names os o in
    let r = all_last g os o h.frames.read in
    record {
      frames = subst (AreFrames g) e h.frames.frames;
      read = r.0;
      reads = r.1;
      good = h.good;
      allowed = subst (λ fs. IsAllowed g (is_wide fs) (shape g.names (tree_of child))) e h.allowed;
      is = sym (ap (λ fs. front fs ++ (text (shape g.names (tree_of child)) ++ rest)) e) ∙ h.is;
    }

no_room : (g : TreeGrammar) (o : Open) (p : Phrase) → o.rules.phrase ≡ Some p → room_after o ≡ false → p.daughters ≤ count (shapes g.names (trees_of o)) + 1
no_room g o p at full =
    let low : ltb (length o.daughters.items + 1) p.daughters ≡ false = sym (ap (λ q. unwrap_or (option_map (λ (p : Phrase). ltb (length o.daughters.items + 1) p.daughters) q) false) at) ∙ full in
    omega (arith, ltb-false (length o.daughters.items + 1) p.daughters low, count_shapes g.names (trees_of o), count_trees o.daughters.items)

closed_text : (f : Frame) (fs : List Frame) (s : Shape) (after : List ℕ) → front fs ++ (text (node f.name (joined f.done (more s none))) ++ after) ≡ front (f ∷ fs) ++ (text s ++ 41 ∷ after)
closed_text f fs s after =
    let row : texts (joined f.done (more s none)) ++ 41 ∷ after ≡ texts f.done ++ 32 ∷ (text s ++ 41 ∷ after) =
    ap (λ t. t ++ 41 ∷ after) (texts_joined f.done (more s none)) ∙ append_assoc (texts f.done) (texts (more s none)) (41 ∷ after) ∙ ap (λ t. texts f.done ++ (t ++ 41 ∷ after)) (append-nil (32 ∷ text s)) in
    ap (λ t. front fs ++ t) (node_text f.name (joined f.done (more s none)) after ∙ ap (λ t. 40 ∷ (f.name ++ t)) row) ∙ sym (front_step f fs (text s ++ 41 ∷ after))

-- where the rule can't end
pub stop_shut : (g : TreeGrammar) → IsNamedWell g → HasEntry g → (os : List Open) (o : Open) (child : Child) (whole rest : List ℕ) → Under g os o child whole rest → Begins 41 rest →
    closed o.rules (trees_of o) (tree_of child) ≡ None → Fails (IsText g) (IsText g) whole (length rest)
stop_shut g well entry os o child whole rest h begins none_is =
    let f = frame_of g.names o in
    let fs = frames_of g.names os in
    let s = shape g.names (tree_of child) in
    fails g whole (front (f ∷ fs) ++ text s) rest (length rest) (sym h.is ∙ sym (append_assoc (front (f ∷ fs)) (text s) rest)) refl
    (stop_after g well entry (f ∷ fs) s rest h.frames h.allowed
    (λ r alike. not_closed g f fs s rest r begins (none_made g (is_wide fs) f.name f.rules (trees_of o) (tree_of child) h.frames.0 h.good.preferred none_is) alike))

-- where neither the rule ends nor another daughter stands
pub stop_full : (g : TreeGrammar) → IsNamedWell g → HasEntry g → (os : List Open) (o : Open) (child : Child) (whole rest : List ℕ) → Under g os o child whole rest → (Begins 41 rest → ⊥) →
    (Begins 32 rest → room_after o ≡ false) → Fails (IsText g) (IsText g) whole (length rest)
stop_full g well entry os o child whole rest h shut full =
    let f = frame_of g.names o in
    let fs = frames_of g.names os in
    let s = shape g.names (tree_of child) in
    fails g whole (front (f ∷ fs) ++ text s) rest (length rest) (sym h.is ∙ sym (append_assoc (front (f ∷ fs)) (text s) rest)) refl
    (stop_after g well entry (f ∷ fs) s rest h.frames h.allowed
    (λ r alike. not_gone g f fs s rest r h.frames.0 shut (λ b p at. no_room g o p at (full b)) alike))

-- on to the mother
pub risen : (g : TreeGrammar) (os : List Open) (o : Open) (child mother : Child) (whole rest after : List ℕ) → Under g os o child whole rest → rest ≡ 41 ∷ after →
    closed o.rules (trees_of o) (tree_of child) ≡ Some (tree_of mother) → IsChildCounted mother → IsAfter g os mother whole after
risen g os o child mother whole rest after h e is counted =
    let f = frame_of g.names o in
    let fs = frames_of g.names os in
    let s = shape g.names (tree_of child) in
    let m = made g (is_wide fs) f.name f.rules (trees_of o) (tree_of child) (tree_of mother) h.frames.0 h.read.over h.read.preferred h.good.over h.good.preferred is in
    record {
      frames = record { frames = h.frames.3; read = h.reads };
      good = record { over = m.over; preferred = m.preferred; counted = counted };
      allowed = m.allowed;
      is = ap (λ t. front fs ++ (text t ++ after)) m.is ∙ closed_text f fs s after ∙ ap (λ t. front (f ∷ fs) ++ (text s ++ t)) (sym e) ∙ h.is;
    }

-- on to another daughter
abbrev grown : Frame → Shape → Frame
grown f s = record { name = f.name; rules = f.rules; done = joined f.done (more s none) }

frame_grown : (names : List (List ℕ)) (o p : Open) (d : Derivation) → p.rules ≡ o.rules → trees_of p ≡ with_last (trees_of o) d → frame_of names p ≡ grown (frame_of names o) (shape names d)
frame_grown names o p d same trees =
    ap (λ (r : Rules). record { name = name_of names (place_of r); rules = r; done = shapes names (trees_of p) }) same
    ∙ ap (λ (t : Shapes). record { name = name_of names (place_of o.rules); rules = o.rules; done = t }) (ap (shapes names) trees ∙ shapes_last names (trees_of o) d)

grown_text : (f : Frame) (fs : List Frame) (s : Shape) (rest : List ℕ) → front (grown f s ∷ fs) ++ rest ≡ front (f ∷ fs) ++ (text s ++ 32 ∷ rest)
grown_text f fs s rest =
    let row : texts (joined f.done (more s none)) ++ 32 ∷ rest ≡ texts f.done ++ 32 ∷ (text s ++ 32 ∷ rest) =
    ap (λ t. t ++ 32 ∷ rest) (texts_joined f.done (more s none)) ∙ append_assoc (texts f.done) (texts (more s none)) (32 ∷ rest) ∙ ap (λ t. texts f.done ++ (t ++ 32 ∷ rest)) (append-nil (32 ∷ text s)) in
    front_step (grown f s) fs rest ∙ ap (λ t. front fs ++ (40 ∷ (f.name ++ t))) row ∙ sym (front_step f fs (text s ++ 32 ∷ rest))

room_by : (n : ℕ) (o : Option Phrase) → unwrap_or (option_map (λ (p : Phrase). ltb (n + 1) p.daughters) o) false ≡ true → (p : Phrase) × (o ≡ Some p) × (n + 1 < p.daughters)
room_by n None h = absurd (false≢true h)
room_by n (Some p) h = (p, refl, ltb-true (n + 1) p.daughters h)

some_done : (done : Shapes) (s : Shape) → joined done (more s none) ≡ none → ⊥
some_done done s e = omega (arith, count_joined done s none, ap count e)

grown_frames : (g : TreeGrammar) (os : List Open) (o : Open) (child : Child) (whole rest : List ℕ) → Under g os o child whole rest → room_after o ≡ true → AreFrames g (grown (frame_of g.names o) (shape g.names (tree_of child)) ∷ frames_of g.names os)
grown_frames g os o child whole rest h room =
    let f = frame_of g.names o in
    let s = shape g.names (tree_of child) in
    let r = room_by (length o.daughters.items) o.rules.phrase room in
    let size : count (joined f.done (more s none)) ≡ length o.daughters.items + 1 = omega (arith, count_joined f.done s none, count_shapes g.names (trees_of o), count_trees o.daughters.items) in
    (h.frames.0, inr (r.0, r.1, omega (arith, size, r.2)), joined_shapes g f.done s none h.frames.2 (over_shape g (tree_of child) h.good.over) tt, h.frames.3)

pub gone : (g : TreeGrammar) (os : List Open) (o p : Open) (child : Child) (whole bytes rest : List ℕ) → Under g os o child whole bytes → bytes ≡ 32 ∷ rest → p.rules ≡ o.rules →
    trees_of p ≡ with_last (trees_of o) (tree_of child) → AreCountedIn p → room_after o ≡ true → IsBefore g (os ++ p ∷ []) whole rest
gone g os o p child whole bytes rest h e same trees counted room =
    let f = frame_of g.names o in
    let fs = frames_of g.names os in
    let s = shape g.names (tree_of child) in
    let k : frames_of g.names (os ++ p ∷ []) ≡ grown f s ∷ fs = frames_push g.names os p ∙ ap (λ t. t ∷ fs) (frame_grown g.names o p (tree_of child) same trees) in
    let read : AreRead g p = record {
      over = subst (AreOver g) (sym trees) (over_last g (trees_of o) (tree_of child) h.read.over h.good.over);
      preferred = subst (ArePreferred g) (sym trees) (preferred_last g (trees_of o) (tree_of child) h.read.preferred h.good.preferred);
      counted = counted;
    } in
    record {
      frames = record { frames = subst (AreFrames g) (sym k) (grown_frames g os o child whole bytes h room); read = All-push (AreRead g) os p h.reads read };
      ready = subst (λ t. IsReady t rest) (sym k) (λ q. absurd (some_done f.done s q));
      is = ap (λ t. front t ++ rest) k ∙ grown_text f fs s rest ∙ ap (λ t. front (f ∷ fs) ++ (text s ++ t)) (sym e) ∙ h.is;
    }

-- past the end of the whole tree
pub stop_past : (g : TreeGrammar) → IsNamedWell g → HasEntry g → (child : Child) (whole rest : List ℕ) → IsAfter g [] child whole rest → (rest ≡ [] → ⊥) → Fails (IsText g) (IsText g) whole (length rest)
stop_past g well entry child whole rest h some =
    let s = shape g.names (tree_of child) in
    fails g whole (front [] ++ text s) rest (length rest) (sym h.is ∙ sym (append_assoc [] (text s) rest)) refl
    (stop_after g well entry [] s rest tt h.allowed (λ r alike. nothing_behind g s rest r some alike))
