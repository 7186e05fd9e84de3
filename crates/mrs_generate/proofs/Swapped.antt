-- Full structures of which others are accepted, in the same cases: what fits and what is found is the same.
use Rattle.std.specs.Prelude.{ℕ, ◌↔◌, List}
use Rattle.chart_model.specs.Calculus.{Calculus}
use Rattle.chart_model.specs.Chart.{Leaf, Limits}
use Rattle.chart_model.specs.Classes.{Class}
use Rattle.chart_core.specs.declared.Limits as declared
use Rattle.derivation.specs.Trees.{Derivation, Daughters}
use Rattle.tree_model.specs.Readings.{Wholes, IsReading, reading_leaf, reading_phrase, AreReadings, no_readings, more_readings, IsAccepted, AreAllAccepted, AreMoreThan}
use Rattle.packed_items.specs.Packed.{Fit, IsFound}
use Rattle.packed_items.specs.declared.Found.{Found}
use Rattle.packed_items.specs.declared.Found.TheVariants as found

-- the same but for what is accepted
abbrev pub accepting : {V C : Type 0} → Wholes V C → (V → C → Type 0) → Wholes V C
accepting w accepted = record { leaf_full = w.leaf_full; leaf_tree = w.leaf_tree; full = w.full; place = w.place; accepted = accepted }

module _ {M C V : Type 0} (k : Calculus M C) (w : Wholes V C) (accepted : V → C → Type 0) (same : (v : V) (c : C) → w.accepted v c ↔ accepted v c) where
  module _ (limits : Limits) (leaves : List (Leaf M C)) where
    mutual
      to : {t : Derivation} {c : Class V C} → IsReading k w limits leaves t c → IsReading k (accepting w accepted) limits leaves t c
      to (reading_leaf l leaf at) = reading_leaf l leaf at
      to (reading_phrase rule ts ds c v below arity all covers full) = reading_phrase rule ts ds c v below arity (all_to all) covers full

      all_to : {ts : Daughters} {ds : List (Class V C)} → AreReadings k w limits leaves ts ds → AreReadings k (accepting w accepted) limits leaves ts ds
      all_to (no_readings) = no_readings
      all_to (more_readings t ts d ds r l all) = more_readings t ts d ds (to r) l (all_to all)

    mutual
      back : {t : Derivation} {c : Class V C} → IsReading k (accepting w accepted) limits leaves t c → IsReading k w limits leaves t c
      back (reading_leaf l leaf at) = reading_leaf l leaf at
      back (reading_phrase rule ts ds c v below arity all covers full) = reading_phrase rule ts ds c v below arity (all_back all) covers full

      all_back : {ts : Daughters} {ds : List (Class V C)} → AreReadings k (accepting w accepted) limits leaves ts ds → AreReadings k w limits leaves ts ds
      all_back (no_readings) = no_readings
      all_back (more_readings t ts d ds r l all) = more_readings t ts d ds (back r) l (all_back all)

    accepted_to : (t : Derivation) → IsAccepted k w limits leaves t → IsAccepted k (accepting w accepted) limits leaves t
    accepted_to t a = record { class = a.class; reading = to a.reading; accepted = (same a.class.shape a.class.cover).0 a.accepted }

    accepted_back : (t : Derivation) → IsAccepted k (accepting w accepted) limits leaves t → IsAccepted k w limits leaves t
    accepted_back t a = record { class = a.class; reading = back a.reading; accepted = (same a.class.shape a.class.cover).1 a.accepted }

    all_accepted : (ts : List Derivation) → AreAllAccepted k w limits leaves ts → AreAllAccepted k (accepting w accepted) limits leaves ts
    all_accepted ts h = record { each = λ t c. accepted_to t (h.each t c); all = λ t a. h.all t (accepted_back t a); in_order = h.in_order }

    more_accepted : (max : ℕ) → AreMoreThan k w limits leaves max → AreMoreThan k (accepting w accepted) limits leaves max
    more_accepted max h = record { some = h.some; many = h.many; each = λ t c. accepted_to t (h.each t c); in_order = h.in_order }

  module _ {F : Type 0} (full : ℕ → List F → F → Type 0) (agrees : M → F → Type 0) where
    -- what fits doesn't speak of what is accepted
    pub fit_back : (named : ℕ → Type 0) (ruled : ℕ → ℕ → Type 0) (leaves : List (Leaf M C)) → Fit k full agrees (accepting w accepted) named ruled leaves → Fit k full agrees w named ruled leaves
    fit_back named ruled leaves h = record {
      agree = record { seen = h.agree.seen; keeps = h.agree.keeps; leaf_agrees = h.agree.leaf_agrees };
      apart = record { leaves_apart = h.apart.leaves_apart; lexical_leaves = h.apart.lexical_leaves; places_apart = h.apart.places_apart; one_full = h.apart.one_full };
      names = h.names;
      rules = h.rules;
    }

    pub found_to : (limits : declared.Limits) (leaves : List (Leaf M C)) (r : Found) → IsFound k full agrees w limits leaves r → IsFound k full agrees (accepting w accepted) limits leaves r
    found_to limits leaves (found.UnaryChain) f = f
    found_to limits leaves (found.Edges) f = f
    found_to limits leaves (found.Readings) f = (f.0, more_accepted _ leaves _ f.1)
    found_to limits leaves (found.Trees classes trees) f = (f.0, f.1, all_accepted _ leaves _ f.2, f.3)
