-- What a door knows goes to the pass of its deque.
use Rattle.std.proofs.Common.{◌≡◌, ◌≢◌, ℕ, zero, suc, ◌+◌, ◌<◌, ◌==◌, if◌then◌else◌, Bool, true, false, List, [], ◌∷◌, ◌++◌, length, map, set, refl, sym, ap, ◌∙◌, subst, ⊎_elim, arith}
use Rattle.std.proofs.lemmas.List.{length-map}
use mathlib.Core.Option.{some, some-injective, some-ne-none}
use lib.ListN.{get_elem?}
use Rattle.atomic_table.proofs.Lists.{at_set, at_map, at_longer, at_last}
use Rattle.crossbeam_deque.specs.Handles.{view, worker_view, worker_deque, stealer_deque}
use Rattle.chart_workers.specs.declared.hand.Hand.{Hand}
use Rattle.chart_workers.specs.declared.seat.Door.{Door}
use Rattle.chart_workers.specs.declared.seat.Pass.{Pass}
use Rattle.chart_workers.specs.Balance.{weigh, joined, IsAdditive}
use Rattle.chart_workers.specs.Whole.{at_door, at_pass, all_of, pass_place, ArePlaced, AreLinked}
use Rattle.chart_workers.proofs.Steps.{weigh-append}

-- the total after a change at one place
pub weigh_set_any : {A : Type 0} (f : A → ℕ) (l : List A) (i : ℕ) (v w : A) → get_elem? l i ≡ some v → weigh f (set l i w) + f v ≡ weigh f l + f w
weigh_set_any f [] i v w e = absurd (some-ne-none v (sym e))
weigh_set_any f (x ∷ xs) zero v w e = let s : f x ≡ f v = ap f (some-injective x v e) in omega arith
weigh_set_any f (x ∷ xs) (suc i) v w e = let r = weigh_set_any f xs i v w e in omega arith

branch : (b : Bool) (x y z : ℕ) → x ≡ y + z → (if b then x else 0) ≡ (if b then y else 0) + (if b then z else 0)
branch true x y z e = e
branch false x y z e = refl

measured : (f : Hand → ℕ) → IsAdditive f → (t : ℕ) (p q : Pass) (d : Door) → (q.number ≡ p.number) → (q.doors ≡ p.doors) → worker_view q.own ≡ joined (worker_view p.own) (view d.pass) → p.number ≡ d.deque → at_pass f t q ≡ at_pass f t p + at_door f t d
measured f add t p q d numbers doors knows is =
    let e : at_pass f t q ≡ (if t == d.deque then f (joined (worker_view p.own) (view d.pass)) else 0) + weigh (at_door f t) p.doors.items = (λ i. (if t == (numbers ∙ is) i then f (knows i) else 0) + weigh (at_door f t) (doors i).items) in
    let g : at_pass f t p ≡ (if t == d.deque then f (worker_view p.own) else 0) + weigh (at_door f t) p.doors.items = (λ i. (if t == is i then f (worker_view p.own) else 0) + weigh (at_door f t) p.doors.items) in
    let h = branch (t == d.deque) (f (joined (worker_view p.own) (view d.pass))) (f (worker_view p.own)) (f (view d.pass)) (add (worker_view p.own) (view d.pass)) in
    omega arith

pub at_less : {A : Type 0} (l : List A) (i : ℕ) (v : A) → get_elem? l i ≡ some v → i < length l
at_less [] i v e = absurd (some-ne-none v (sym e))
at_less (x ∷ xs) zero v e = omega arith
at_less (x ∷ xs) (suc i) v e = let r = at_less xs i v e in omega arith

-- the place of the last door
pub last_placed : (places : List _) (doors new : List Door) (d : Door) → doors ≡ new ++ d ∷ [] → ArePlaced places doors → get_elem? places d.deque ≡ some (stealer_deque d.thief)
last_placed places doors new d is placed = placed (length new) d (ap (λ (l : List Door). get_elem? l (length new)) is ∙ at_last new d (length new) refl)

pub others_placed : (places : List _) (doors new : List Door) (d : Door) → doors ≡ new ++ d ∷ [] → ArePlaced places doors → ArePlaced places new
others_placed places doors new d is placed i x e = placed i x (ap (λ (l : List Door). get_elem? l i) is ∙ at_longer new (d ∷ []) i x e)

pub within : (places : List _) (passes : List Pass) (k : ℕ) (d : Door) → map pass_place passes ≡ places → get_elem? places k ≡ some (stealer_deque d.thief) → k < length passes
within places passes k d is at = let lt = at_less places k (stealer_deque d.thief) at in let n = ap (λ (l : List _). length l) is in let m = length-map passes pass_place in omega arith

pub leads : (places : List _) (passes : List Pass) (k : ℕ) (p : Pass) (d : Door) → map pass_place passes ≡ places → get_elem? places k ≡ some (stealer_deque d.thief) → get_elem? passes k ≡ some p → stealer_deque d.thief ≡ worker_deque p.own
leads places passes k p d is at here = some-injective (stealer_deque d.thief) (worker_deque p.own) (sym at ∙ ap (λ (l : List _). get_elem? l k) (sym is) ∙ at_map pass_place passes k p here)

pub still_linked : (places : List _) (passes : List Pass) (k : ℕ) (p q : Pass) → get_elem? passes k ≡ some p → q.number ≡ p.number → q.doors ≡ p.doors → AreLinked places passes → AreLinked places (set passes k q)
still_linked places passes k p q here number doors old j x e = ⊎_elim
    (λ (y : (j ≡ k) × (q ≡ x)). subst (λ (z : Pass). (z.number ≡ j) × ArePlaced places z.doors.items) y.1
    (number ∙ (old k p here).0 ∙ sym y.0, subst (λ (ds : _). ArePlaced places ds) (sym (ap (λ (v : _). v.items) doors)) (old k p here).1))
    (λ (y : (j ≢ k) × (get_elem? passes j ≡ some x)). old j x y.1) (at_set passes k j q x e)

pub poured : (f : Hand → ℕ) → IsAdditive f → (t : ℕ) (passes : List Pass) (doors new : List Door) (d : Door) (p q : Pass) → get_elem? passes d.deque ≡ some p → p.number ≡ d.deque → q.number ≡ p.number → q.doors ≡ p.doors → worker_view q.own ≡ joined (worker_view p.own) (view d.pass) → doors ≡ new ++ d ∷ []
    → all_of f t (set passes d.deque q) + weigh (at_door f t) new ≡ all_of f t passes + weigh (at_door f t) doors
poured f add t passes doors new d p q here number numbers same knows is =
    let a = weigh_set_any (at_pass f t) passes d.deque p q here in
    let m = measured f add t p q d numbers same knows number in
    let w = ap (λ (l : List Door). weigh (at_door f t) l) is in
    let z = weigh-append (at_door f t) new (d ∷ []) in
    let one : weigh (at_door f t) (d ∷ []) ≡ at_door f t d = omega arith in
    omega arith
