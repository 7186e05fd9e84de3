-- Classes that are counted on.
use Rattle.std.specs.Prelude.{◌≡◌, ℕ, ◌<◌, ◌≤◌, ◌*◌, All, Option, Some, List, [], ◌∷◌, ◌++◌, length, map, slice_get, slice_set, refl}
use Rattle.std.proofs.Common.{Vec, Global, ap, subst, sym, ◌∙◌, arith, get_or, zero, suc}
use Rattle.std.proofs.lemmas.List.Elements.{All-head, All-tail, All-cons, All-weaker}
use Rattle.std.specs.Arc.{arc_value}
use Rattle.tree_model.specs.Counts as counts
use Rattle.tree_model.specs.Readings.{Wholes}
use Rattle.forest_unpack.specs.declared.tallies.Class.{Class}
use Rattle.forest_unpack.specs.Inner.Classes.{IsAt, IsRaised, IsFit, class_of, classes_of, list_of, listed}
use Rattle.forest_unpack.specs.Inner.Memos.{Extends}
use Rattle.forest_unpack.proofs.Adding.{map_append}

module _ {A B : Type 0} (f : A → B) where
  get_mapped : (xs : List A) (i : ℕ) (x : A) → slice_get xs i ≡ Some x → slice_get (map f xs) i ≡ Some (f x)
  get_mapped [] i x at = absurd (cc)
  get_mapped (y ∷ ys) zero x at = let e : y ≡ x = cc in ap (λ z. Some (f z)) e
  get_mapped (y ∷ ys) (suc n) x at = get_mapped ys n x at

  set_mapped : (xs : List A) (i : ℕ) (x : A) → map f (slice_set xs i x) ≡ slice_set (map f xs) i (f x)
  set_mapped [] i x = refl
  set_mapped (y ∷ ys) zero x = refl
  set_mapped (y ∷ ys) (suc n) x = ap (λ zs. f y ∷ zs) (set_mapped ys n x)

all_at : {A : Type 0} (P : A → Type 0) (xs : List A) (i : ℕ) (x : A) → All P xs → slice_get xs i ≡ Some x → P x
all_at P [] i x all at = absurd (cc)
all_at P (y ∷ ys) zero x all at = let e : y ≡ x = cc in subst P e (All-head P y ys all)
all_at P (y ∷ ys) (suc n) x all at = all_at P ys n x (All-tail P y ys all) at

all_set : {A : Type 0} (P : A → Type 0) (xs : List A) (i : ℕ) (x : A) → All P xs → P x → All P (slice_set xs i x)
all_set P [] i x all p = all
all_set P (y ∷ ys) zero x all p = All-cons P x ys p (All-tail P y ys all)
all_set P (y ∷ ys) (suc n) x all p = All-cons P y (slice_set ys n x) (All-head P y ys all) (all_set P ys n x (All-tail P y ys all) p)

pub some_one : {A : Type 0} (x y : A) (o : Option A) → o ≡ Some x → o ≡ Some y → x ≡ y
some_one x y o e f = cc

module _ {X T C W V : Type 0} (value : T → V) (w : Wholes V C) (named : ℕ → Type 0) where
  -- what fits still does where more is known
  pub fit_on : (old new : List V) → Extends old new → (made : List (Class X T C W)) → All (IsFit value w named old) made → All (IsFit value w named new) made
  fit_on old new grow made all = All-weaker (IsFit value w named old) (IsFit value w named new) (λ class fit. (grow class.item.number (value (arc_value class.item.full)) fit.0, fit.1)) made all

  pub raised_fit : (known : List V) (place times : ℕ) (old new : List (Class X T C W)) → IsRaised place times old new → All (IsFit value w named known) old → All (IsFit value w named known) new
  raised_fit known place times old new r all =
      subst (All (IsFit value w named known)) (sym r.is) (all_set (IsFit value w named known) old place _ all (all_at (IsFit value w named known) old place r.class all r.at))

  pub raised_gains : (known : List V) (place times number : ℕ) (old new : List (Class X T C W)) (v : V) → IsRaised place times old new → IsAt old place number → All (IsFit value w named known) old → slice_get known number ≡ Some v → counts.Gains v times (classes_of value old) (classes_of value new)
  raised_gains known place times number old new v r a all at =
      let same : r.class ≡ a.class = some_one r.class a.class (slice_get old place) r.at a.at in
      let fit = (all_at (IsFit value w named known) old place r.class all r.at).0 in
      let n : r.class.item.number ≡ number = ap (λ (c : Class X T C W). c.item.number) same ∙ a.same in
      let e : value (arc_value r.class.item.full) ≡ v = some_one (value (arc_value r.class.item.full)) v (slice_get known number) (subst (λ m. slice_get known m ≡ Some (value (arc_value r.class.item.full))) n fit) at in
      let there = get_mapped (class_of value) old place r.class r.at in
      let set = ap (classes_of value) r.is ∙ set_mapped (class_of value) old place (record { item = r.class.item; times = r.sum }) in
      let g : counts.Gains (value (arc_value r.class.item.full)) times (classes_of value old) (slice_set (classes_of value old) place (record { full = value (arc_value r.class.item.full); times = r.sum })) = counts.gains_more place r.class.times r.sum there r.low in
      subst (λ z. counts.Gains z times (classes_of value old) (classes_of value new)) e (subst (counts.Gains (value (arc_value r.class.item.full)) times (classes_of value old)) (sym set) g)

  -- one more class
  pub pushed_gains : (times : ℕ) (old new : List (Class X T C W)) (class : Class X T C W) → new ≡ old ++ class ∷ [] → class.times ≤ times → counts.Gains (value (arc_value class.item.full)) times (classes_of value old) (classes_of value new)
  pushed_gains times old new class is low = subst (counts.Gains (value (arc_value class.item.full)) times (classes_of value old)) (sym (ap (classes_of value) is ∙ map_append (class_of value) old (class ∷ []))) (counts.gains_new class.times low)

-- in how many ways one more class is taken
pub ways_push : {V : Type 0} (cs : List (counts.Class V)) (c : counts.Class V) → counts.ways (cs ++ c ∷ []) ≡ counts.ways cs * c.times
ways_push [] c = omega arith
ways_push (d ∷ cs) c = let e = ways_push cs c in rw (e) (sym (assoc d.times (counts.ways cs) c.times))
  where
    assoc : (a b m : ℕ) → a * b * m ≡ a * (b * m)
    assoc a b m = omega arith

-- the element at a place
pub at_get : {A : Type 0} (xs : List A) (i : ℕ) (x : A) → i < length xs → x ≡ get_or xs i x → slice_get xs i ≡ Some x
at_get [] i x low at = absurd (omega (arith, low))
at_get (y ∷ ys) zero x low at = ap Some (sym at)
at_get (y ∷ ys) (suc n) x low at = at_get ys n x (omega (arith, low)) at

pub at_low : {A : Type 0} (xs : List A) (i : ℕ) (x : A) → slice_get xs i ≡ Some x → i < length xs
at_low [] i x at = absurd (cc)
at_low (y ∷ ys) zero x at = omega arith
at_low (y ∷ ys) (suc n) x at = let low = at_low ys n x at in omega (arith, low)

module _ {X T C W : Type 0} where
  -- the classes that were counted of a host, or none
  pub listed_at : (table : List (Vec (Class X T C W) Global)) (host : ℕ) (made : Vec (Class X T C W) Global) → host < length table → made ≡ get_or table host made → made.items ≡ listed table host
  listed_at table host made low at = sym (ap list_of (at_get table host made low at))

  pub listed_none : (table : List (Vec (Class X T C W) Global)) (host : ℕ) → length table ≤ host → [] ≡ listed table host
  listed_none [] host low = refl
  listed_none (x ∷ xs) zero low = absurd (omega (arith, low))
  listed_none (x ∷ xs) (suc n) low = listed_none xs n (omega (arith, low))
