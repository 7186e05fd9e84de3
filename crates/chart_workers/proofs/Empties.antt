-- A pass gives its doors away.
use Rattle.std.proofs.Common.{◌≡◌, ◌≢◌, ℕ, zero, suc, ◌+◌, ◌<◌, ◌==◌, if◌then◌else◌, List, [], ◌∷◌, length, map, set, refl, sym, ap, eq-eqb, ne_eqb, ◌∙◌, subst, ⊎_elim, arith}
use Rattle.std.proofs.lemmas.List.{length-map}
use mathlib.Core.Option.{some, some-injective, some-ne-none}
use lib.ListN.{get_elem?}
use Rattle.atomic_table.proofs.Lists.{at_set, at_map}
use Rattle.crossbeam_deque.specs.Handles.{worker_view}
use Rattle.chart_workers.specs.declared.hand.Hand.{Hand}
use Rattle.chart_workers.specs.declared.seat.Door.{Door}
use Rattle.chart_workers.specs.declared.seat.Pass.{Pass}
use Rattle.chart_workers.specs.Balance.{weigh}
use Rattle.chart_workers.specs.Whole.{at_door, at_pass, all_of, pass_doors, ArePlaced, AreLinked}
use Rattle.chart_workers.proofs.Pours.{weigh_set_any, at_less}

some_there : {A : Type 0} (l : List A) (i : ℕ) → i < length l → (a : A) × (get_elem? l i ≡ some a)
some_there [] i h = absurd (omega arith)
some_there (x ∷ xs) zero h = (x, refl)
some_there (x ∷ xs) (suc i) h = some_there xs i (omega arith)

pub emptied_linked : (places : List _) (passes : List Pass) (k : ℕ) (p q : Pass) → get_elem? passes k ≡ some p → q.number ≡ p.number → q.doors.items ≡ [] → AreLinked places passes → AreLinked places (set passes k q)
emptied_linked places passes k p q here number none old j x e = ⊎_elim
    (λ (y : (j ≡ k) × (q ≡ x)). subst (λ (z : Pass). (z.number ≡ j) × ArePlaced places z.doors.items) y.1
    (number ∙ (old k p here).0 ∙ sym y.0, λ i d g. absurd (some-ne-none d (sym g ∙ ap (λ (l : List Door). get_elem? l i) none))))
    (λ (y : (j ≢ k) × (get_elem? passes j ≡ some x)). old j x y.1) (at_set passes k j q x e)

pub emptied_all : (f : Hand → ℕ) (t : ℕ) (passes : List Pass) (k : ℕ) (p q : Pass) → get_elem? passes k ≡ some p → q.number ≡ p.number → q.own ≡ p.own → q.doors.items ≡ [] → all_of f t (set passes k q) + weigh (at_door f t) p.doors.items ≡ all_of f t passes
emptied_all f t passes k p q here number own none =
    let a = weigh_set_any (at_pass f t) passes k p q here in
    let own_part : ℕ = if t == p.number then f (worker_view p.own) else 0 in
    let e : at_pass f t q ≡ own_part + 0 = (λ i. (if t == number i then f (worker_view (own i)) else 0) + weigh (at_door f t) (none i)) in
    let g : at_pass f t p ≡ own_part + weigh (at_door f t) p.doors.items = refl in
    omega arith

pub still_empty : (passes new : List Pass) (k : ℕ) (q : Pass) → map pass_doors new ≡ map pass_doors (set passes k q) → q.doors.items ≡ [] → ((j : ℕ) (p : Pass) → get_elem? passes j ≡ some p → j < k → p.doors.items ≡ [])
    → (j : ℕ) (p : Pass) → get_elem? new j ≡ some p → j < k + 1 → p.doors.items ≡ []
still_empty passes new k q same none old j p e lt =
    let lt' : j < length (set passes k q) = (let n = at_less new j p e in let s = ap (λ (l : List _). length l) same in let a = length-map new pass_doors in let b = length-map (set passes k q) pass_doors in omega arith) in
    let x = some_there (set passes k q) j lt' in
    let is : p.doors.items ≡ x.0.doors.items = some-injective p.doors.items x.0.doors.items (sym (at_map pass_doors new j p e) ∙ ap (λ (l : List _). get_elem? l j) same ∙ at_map pass_doors (set passes k q) j x.0 x.1) in
    is ∙ ⊎_elim (λ (y : (j ≡ k) × (q ≡ x.0)). ap (λ (z : Pass). z.doors.items) (sym y.1) ∙ none)
    (λ (y : (j ≢ k) × (get_elem? passes j ≡ some x.0)). old j x.0 y.1 (let ne = y.0 in omega arith)) (at_set passes k j q x.0 x.1)

at_mine : (f : Hand → ℕ) (t : ℕ) (p : Pass) → t ≡ p.number → p.doors.items ≡ [] → at_pass f t p ≡ f (worker_view p.own)
at_mine f t p same none = (λ i. (if eq-eqb t p.number same i then f (worker_view p.own) else 0) + weigh (at_door f t) (none i)) ∙ (let g : f (worker_view p.own) + 0 ≡ f (worker_view p.own) = omega arith in g)

at_other : (f : Hand → ℕ) (t : ℕ) (p : Pass) → t ≢ p.number → p.doors.items ≡ [] → at_pass f t p ≡ 0
at_other f t p ne none = λ i. (if ne_eqb t p.number ne i then f (worker_view p.own) else 0) + weigh (at_door f t) (none i)

none_later : (f : Hand → ℕ) (t : ℕ) (passes : List Pass) → ((j : ℕ) (x : Pass) → get_elem? passes j ≡ some x → (t ≢ x.number) × (x.doors.items ≡ [])) → all_of f t passes ≡ 0
none_later f t [] each = refl
none_later f t (x ∷ xs) each = let a = at_other f t x (each 0 x refl).0 (each 0 x refl).1 in let r = none_later f t xs (λ j y e. each (suc j) y e) in omega arith

-- where the doors are gone and each pass stands at its number, what is known of a deque is what its own pass knows
pub own_alone : (f : Hand → ℕ) (passes : List Pass) (from t : ℕ) (p : Pass) → ((j : ℕ) (x : Pass) → get_elem? passes j ≡ some x → (x.number ≡ from + j) × (x.doors.items ≡ [])) → get_elem? passes t ≡ some p → all_of f (from + t) passes ≡ f (worker_view p.own)
own_alone f [] from t p each e = absurd (some-ne-none p (sym e))
own_alone f (x ∷ xs) from zero p each e =
    let h = each 0 x refl in let is : x ≡ p = some-injective x p e in let a = at_mine f (from + 0) x (sym h.0) h.1 in
    let r = none_later f (from + 0) xs (λ j y g. let k = each (suc j) y g in ((λ q. let n = k.0 in absurd (omega arith)), k.1)) in
    let s : f (worker_view x.own) ≡ f (worker_view p.own) = ap (λ (y : Pass). f (worker_view y.own)) is in omega arith
own_alone f (x ∷ xs) from (suc t) p each e =
    let h = each 0 x refl in let a = at_other f (from + suc t) x (λ q. let n = h.0 in absurd (omega arith)) h.1 in
    let same : from + suc t ≡ (from + 1) + t = omega arith in
    let r = own_alone f xs (from + 1) t p (λ j y g. let k = each (suc j) y g in ((let n = k.0 in omega arith), k.1)) e in
    let b : all_of f (from + suc t) xs ≡ all_of f ((from + 1) + t) xs = ap (λ (n : ℕ). all_of f n xs) same in
    omega arith
