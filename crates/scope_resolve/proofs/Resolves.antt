-- From what the search found to the answer.
use Rattle.std.proofs.Common.{ℕ, zero, suc, ◌≡◌, ◌<◌, ◌≤◌, ◌∙◌, Bool, true, false, List, [], ◌∷◌, ◌++◌, map, length, get_or, take, refl, sym, ap, subst, arith}
use Rattle.std.specs.Prelude.{Contains, All, ◌↔◌, IsTrue}
use Rattle.std.specs.List.Sorted.{IsSortedBy, IsPermutation}
use Rattle.std.specs.Ordering.{is_lt}
use Rattle.std.proofs.lemmas.List.{length-map, get_or-map}
use Rattle.std.proofs.lemmas.List.Sorted.{length_permutation}
use Rattle.std.proofs.lemmas.Option.{slice_get_read}
use Rattle.mrs_model.specs.declared.Hcon.{Hcon}
use Rattle.mrs_model.specs.Meanings.{Meaning}
use Rattle.mrs_model.specs.Views.{hcon_of}
use Rattle.scope_model.specs.declared.Plugging.{Plugging}
use Rattle.scope_model.specs.Frames.{Frame}
use Rattle.scope_model.specs.Numbers.{in_order as renumbered}
use Rattle.scope_model.specs.Readings.{Plugged, IsReading}
use Rattle.scope_model.specs.Answers.{plugged_of, AreReadings, AreAll, IsOver, IsQeq, IsFirstOther, frame}
use Rattle.scope_model.proofs.Lists.{in_of, contains_of, of_map}
use Rattle.scope_model.proofs.Climb.{has_bodies}
use Rattle.scope_model.proofs.Whole.{has_holes}
use Rattle.scope_model.proofs.Going.{has_labels}
use Rattle.scope_resolve.specs.Inner.Nets.{IsLinked}
use Rattle.scope_resolve.specs.Inner.Filling.{AreFound, AreDistinct, IsAny}
use Rattle.scope_resolve.specs.Inner.Resolving.{IsOtherAt, AreMore}
use Rattle.scope_resolve.proofs.Each.{each_whole, all_of}
use Rattle.scope_resolve.proofs.Sorting.{plugging_cmp, in_order, each_moved, all_readings}

module _ (f : Frame) (max : ℕ) (done : Bool) (start ps us : List Plugging) (none : start ≡ []) (a : AreFound f IsAny max done (map plugged_of start) (map plugged_of ps)) (moved : IsPermutation ps us) (sorted : IsSortedBy (λ x y. is_lt (plugging_cmp x y)) us) where
  found_is : map plugged_of ps ≡ a.more
  found_is = a.is ∙ ap (λ (l : List Plugging). map plugged_of l ++ a.more) none

  each : (p : Plugged) → Contains (map plugged_of ps) p → IsReading f p
  each p c = (a.are p (subst (λ (l : List Plugged). Contains l p) found_is c)).0

  once : AreDistinct (map plugged_of ps)
  once = subst AreDistinct (sym found_is) a.once

  pub more_of : done ≡ false → AreMore f max
  more_of d = record {
    some = map plugged_of us;
    order = in_order f ps us each once moved sorted;
    are = all_of (IsReading f) (map plugged_of us) (each_moved f ps us each once moved sorted);
    more = (let m = a.over d in let n = length-map ps plugged_of in let k = length-map us plugged_of in let s = length_permutation ps us moved in omega (arith, m, n, k, s));
  }

  pub all_here : done ≡ true → AreReadings f (map plugged_of us) × (length us ≤ max)
  all_here d =
      let z : 0 ≤ max = omega arith in
      let m = a.few d (subst (λ (l : List Plugging). length (map plugged_of l) ≤ max) (sym none) z) in
      let n = length-map ps plugged_of in
      let s = length_permutation ps us moved in
      (all_readings f ps us each once moved sorted (λ p r. subst (λ (l : List Plugged). Contains l p) (sym found_is) (a.all d p r tt)), omega (arith, m, n, s))

pub no_readings : (f : Frame) (max : ℕ) (out : List Plugging) → out ≡ [] → ((p : Plugged) → IsReading f p → ⊥) → AreReadings f (map plugged_of out) × (length out ≤ max)
no_readings f max out e never =
    let z : 0 ≤ max = omega arith in
    subst (λ (l : List Plugging). AreReadings f (map plugged_of l) × (length l ≤ max)) (sym e) (record { order = tt; every = λ p. (λ c. absurd (in_of [] p c), λ r. absurd (never p r)) }, z)

pub linked_at : (f : Frame) (m : Meaning) → f ≡ frame m → IsLinked f
linked_at f m e = subst IsLinked (sym e) (record { bodies = has_bodies (renumbered m); holes = has_holes (renumbered m); labels = has_labels (renumbered m) })

-- the constraints in turn
take_map : {A B : Type 0} (g : A → B) (xs : List A) (k : ℕ) → take k (map g xs) ≡ map g (take k xs)
take_map g [] zero = refl
take_map g [] (suc k) = refl
take_map g (x ∷ xs) zero = refl
take_map g (x ∷ xs) (suc k) = ap (λ l. g x ∷ l) (take_map g xs k)

all_mapped : (hs : List Hcon) → ((h : Hcon) → Contains hs h → IsQeq (hcon_of h)) → All IsQeq (map hcon_of hs)
all_mapped hs each = all_of IsQeq (map hcon_of hs) (λ c i. (let r = of_map hcon_of c hs (in_of (map hcon_of hs) c i) in subst IsQeq r.2 (each r.0 (contains_of hs r.0 r.1))))

abbrev pub Qeq_at : Hcon → Type 0
Qeq_at h = IsQeq (hcon_of h)

pub all_qeq : (hs : List Hcon) (k : ℕ) → length hs ≤ k → ((h : Hcon) → Contains (take k hs) h → Qeq_at h) → All IsQeq (map hcon_of hs)
all_qeq hs k l each = all_mapped hs (each_whole Qeq_at hs k l each)

pub other_here : (hs : List Hcon) (k : ℕ) (h : Hcon) (r : Bool) → k < length hs → h ≡ get_or hs k h → IsTrue r ↔ Qeq_at h → r ≡ false → ((x : Hcon) → Contains (take k hs) x → Qeq_at x) → IsOtherAt (map hcon_of hs) k
other_here hs k h r l e same n each = record {
  constraint = hcon_of h;
  there = slice_get_read (map hcon_of hs) (length hs) k (hcon_of h) (sym (length-map hs hcon_of)) l (ap hcon_of e ∙ sym (get_or-map hcon_of hs k h (hcon_of h) l));
  other = λ q. (let z : true ≡ false = sym (same.1 q) ∙ n in absurd (cc));
  before = subst (All IsQeq) (sym (take_map hcon_of hs k)) (all_mapped (take k hs) each);
}

pub first_of : (m : Meaning) (k : ℕ) → IsOtherAt m.hcons k → IsFirstOther m k
first_of m k o = record { constraint = o.constraint; there = o.there; other = o.other; before = o.before }

pub over_of : (m : Meaning) (max : ℕ) → All IsQeq m.hcons → AreMore (frame m) max → IsOver m max
over_of m max q a = record { qeqs = q; some = a.some; order = a.order; are = a.are; more = a.more }

pub all_in_all : (m : Meaning) (max : ℕ) (ps : List Plugging) → All IsQeq m.hcons → AreReadings (frame m) (map plugged_of ps) → length ps ≤ max → AreAll m max (map plugged_of ps)
all_in_all m max ps q a few = record { qeqs = q; are = a; few = (let n = length-map ps plugged_of in omega (arith, n, few)) }
