-- Each step on a deque keeps it in balance.
use Rattle.std.proofs.Common.{◌≡◌, ◌≢◌, ℕ, zero, suc, ◌+◌, ◌-◌, ◌<◌, List, [], ◌∷◌, ◌++◌, set, refl, sym, ap, ◌∙◌, ⊎_elim, subst, arith}
use mathlib.Core.Option.{some, some-injective, some-ne-none}
use lib.ListN.{get_elem?}
use Rattle.crossbeam_deque.specs.Tasks.{Pushes, Takes, Finds, Forks, Merges, Learns}
use Rattle.crossbeam_deque.proofs.Lists.{at_set, at_snoc}
use Rattle.chart_core.specs.declared.TaskId.{TaskId}
use Rattle.chart_workers.specs.declared.hand.Hand.{Hand}
use Rattle.chart_workers.specs.Balance.{hand, weigh, IdleIsEmpty, Balanced, Same}

pub weigh-append : {A : Type 0} (h : A → ℕ) (xs ys : List A) → weigh h (xs ++ ys) ≡ weigh h xs + weigh h ys
weigh-append h [] ys = omega arith
weigh-append h (x ∷ xs) ys = let r = weigh-append h xs ys in omega arith

-- the total after a change of one pass
weigh_set : (f : Hand → ℕ) (views : List Hand) (port : ℕ) (v w : Hand) → get_elem? views port ≡ some v → weigh f (set views port w) + f v ≡ weigh f views + f w
weigh_set f [] port v w e = absurd (some-ne-none v (sym e))
weigh_set f (x ∷ xs) zero v w e = let s : f x ≡ f v = ap f (some-injective x v e) in omega arith
weigh_set f (x ∷ xs) (suc k) v w e = let r = weigh_set f xs k v w e in omega arith

idle_set : (views : List Hand) (port : ℕ) (w : Hand) → (w.parts ≡ 0 → (w.put ≡ []) × (w.taken ≡ [])) → IdleIsEmpty views → IdleIsEmpty (set views port w)
idle_set views port w mine old j u e = ⊎_elim (λ (x : (j ≡ port) × (w ≡ u)). subst (λ (y : Hand). y.parts ≡ 0 → (y.put ≡ []) × (y.taken ≡ [])) x.1 mine)
    (λ (x : (j ≢ port) × (get_elem? views j ≡ some u)). old j u x.1) (at_set views port j w u e)

idle_snoc : (views : List Hand) (w : Hand) → (w.parts ≡ 0 → (w.put ≡ []) × (w.taken ≡ [])) → IdleIsEmpty views → IdleIsEmpty (views ++ w ∷ [])
idle_snoc views w mine old j u e = ⊎_elim (λ x. old j u x) (λ (x : w ≡ u). subst (λ (y : Hand). y.parts ≡ 0 → (y.put ≡ []) × (y.taken ≡ [])) x mine) (at_snoc views w u j e)

idle_one : IdleIsEmpty (hand 64 [] [] ∷ [])
idle_one zero v e none = absurd (let q : 64 ≡ v.parts = ap (λ (y : Hand). y.parts) (some-injective (hand 64 [] []) v e) in omega arith)
idle_one (suc k) v e none = absurd (some-ne-none v (sym e))

pub begins : Balanced [] (hand 64 [] [] ∷ [])
begins = (refl, (λ h. refl), idle_one)

pub puts : (port : ℕ) (v : Hand) (x : TaskId) → 0 < v.parts → Pushes Balanced port v (x ∷ []) (λ w. w ≡ hand v.parts (v.put ++ x ∷ []) v.taken)
puts port v x some_part items views b at =
    let w = hand v.parts (v.put ++ x ∷ []) v.taken in (
      w,
      (
        (let s = weigh_set (λ u. u.parts) views port v w at in let p = b.0 in omega arith),
        (λ h.
            let s = weigh_set (λ u. weigh h u.put) views port v w at in
            let t = weigh_set (λ u. weigh h u.taken) views port v w at in
            let p = b.1 h in
            omega (arith, weigh-append h v.put (x ∷ []), weigh-append h items (x ∷ []))),
        idle_set views port w (λ none. absurd (omega arith)) b.2,
      ),
      refl,
    )

pub takes : (port : ℕ) (v : Hand) → 0 < v.parts → Takes Balanced port v 1 (λ xs w. w ≡ hand v.parts v.put (v.taken ++ xs))
takes port v some_part xs items views _ _ b at =
    let w = hand v.parts v.put (v.taken ++ xs) in (
      w,
      (
        (let s = weigh_set (λ u. u.parts) views port v w at in let p = b.0 in omega arith),
        (λ h.
            let s = weigh_set (λ u. weigh h u.put) views port v w at in
            let t = weigh_set (λ u. weigh h u.taken) views port v w at in
            let p = b.1 h in
            omega (arith, weigh-append h v.taken xs, weigh-append h xs items)),
        idle_set views port w (λ none. absurd (omega arith)) b.2,
      ),
      refl,
    )

-- where the other passes have no part, a sum over all views that is 0 at these is the sum at this one
others_zero : (f : Hand → ℕ) (views : List Hand) → weigh (λ (v : Hand). v.parts) views ≡ 0 → ((j : ℕ) (u : Hand) → get_elem? views j ≡ some u → u.parts ≡ 0 → f u ≡ 0) → weigh f views ≡ 0
others_zero f [] none each = refl
others_zero f (x ∷ xs) none each = let a = each zero x refl (omega arith) in let r = others_zero f xs (omega arith) (λ j u e. each (suc j) u e) in omega arith

part_le : (views : List Hand) (port : ℕ) (v : Hand) → get_elem? views port ≡ some v → v.parts < weigh (λ (u : Hand). u.parts) views + 1
part_le [] port v e = absurd (some-ne-none v (sym e))
part_le (x ∷ xs) zero v e = let t : x.parts ≡ v.parts = ap (λ (y : Hand). y.parts) (some-injective x v e) in omega arith
part_le (x ∷ xs) (suc k) v e = let r = part_le xs k v e in omega arith

alone : (f : Hand → ℕ) (views : List Hand) (port : ℕ) (v : Hand) → get_elem? views port ≡ some v → weigh (λ (u : Hand). u.parts) views ≡ v.parts → ((j : ℕ) (u : Hand) → get_elem? views j ≡ some u → u.parts ≡ 0 → f u ≡ 0) → weigh f views ≡ f v
alone f [] port v e all each = absurd (some-ne-none v (sym e))
alone f (x ∷ xs) zero v e all each =
    let s : f x ≡ f v = ap f (some-injective x v e) in let t : x.parts ≡ v.parts = ap (λ (y : Hand). y.parts) (some-injective x v e) in
    let r = others_zero f xs (omega arith) (λ j u e. each (suc j) u e) in omega arith
alone f (x ∷ xs) (suc k) v e all each =
    let le = part_le xs k v e in
    let a = each zero x refl (omega arith) in
    let r = alone f xs k v e (omega arith) (λ j u e. each (suc j) u e) in omega arith

pub learns : (port : ℕ) (v : Hand) → Learns Balanced port v (λ items. v.parts ≡ 64 → (h : TaskId → ℕ) → weigh h v.put ≡ weigh h v.taken + weigh h items)
learns port v items views b at all h =
    let whole : weigh (λ (u : Hand). u.parts) views ≡ v.parts = b.0 ∙ sym all in
    let p = alone (λ u. weigh h u.put) views port v at whole (λ j u e none. ap (λ l. weigh h l) (b.2 j u e none).0) in
    let t = alone (λ u. weigh h u.taken) views port v at whole (λ j u e none. ap (λ l. weigh h l) (b.2 j u e none).1) in
    let q = b.1 h in omega arith

pub finds : (port : ℕ) (v : Hand) → Finds Balanced port v (v.parts ≡ 64 → Same v.put v.taken)
finds port v views b at all h = let l = learns port v [] views b at all h in omega arith

pub forks : (port : ℕ) (v : Hand) → 1 < v.parts → Forks Balanced port v (hand (v.parts - 1) v.put v.taken) (hand 1 [] [])
forks port v more items views b at =
    let w = hand (v.parts - 1) v.put v.taken in let g = hand 1 [] [] in let vs = set views port w in (
      (let s = weigh_set (λ u. u.parts) views port v w at in let p = b.0 in omega (arith, weigh-append (λ (u : Hand). u.parts) vs (g ∷ []))),
      (λ h.
          let s = weigh_set (λ u. weigh h u.put) views port v w at in
          let t = weigh_set (λ u. weigh h u.taken) views port v w at in
          let p = b.1 h in
          omega (arith, weigh-append (λ (u : Hand). weigh h u.put) vs (g ∷ []), weigh-append (λ (u : Hand). weigh h u.taken) vs (g ∷ []))),
      idle_snoc vs g (λ none. absurd (omega arith)) (idle_set views port w (λ none. absurd (omega arith)) b.2),
    )

pub merges : (port : ℕ) (v : Hand) (other : ℕ) (u : Hand) → 0 < v.parts → Merges Balanced port v other u (hand (v.parts + u.parts) (v.put ++ u.put) (v.taken ++ u.taken)) (hand 0 [] [])
merges port v other u some_part items views b at apart at' =
    let w = hand (v.parts + u.parts) (v.put ++ u.put) (v.taken ++ u.taken) in let z = hand 0 [] [] in let vs = set views port w in (
      (let s = weigh_set (λ u. u.parts) views port v w at in let s' = weigh_set (λ u. u.parts) vs other u z at' in let p = b.0 in omega arith),
      (λ h.
          let s = weigh_set (λ u. weigh h u.put) views port v w at in
          let t = weigh_set (λ u. weigh h u.taken) views port v w at in
          let s' = weigh_set (λ u. weigh h u.put) vs other u z at' in
          let t' = weigh_set (λ u. weigh h u.taken) vs other u z at' in
          let p = b.1 h in
          omega (arith, weigh-append h v.put u.put, weigh-append h v.taken u.taken)),
      idle_set vs other z (λ none. (refl, refl)) (idle_set views port w (λ none. absurd (omega arith)) b.2),
    )

pub one_part : (v : Hand) (t : TaskId) → v.parts ≡ 1 → hand 1 v.put (v.taken ++ t ∷ []) ≡ hand v.parts v.put (v.taken ++ t ∷ [])
one_part v t e = ap (λ n. hand n v.put (v.taken ++ t ∷ [])) (sym e)
