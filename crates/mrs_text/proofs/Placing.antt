-- The places of variables among those that were written.
use Rattle.std.proofs.Common.{◌≡◌, ◌≢◌, ℕ, zero, suc, ◌+◌, ◌<◌, ◌≤◌, ◌∙◌, ◌==◌, Bool, true, false, if◌then◌else◌, List, [], ◌∷◌, ◌++◌, length, length-append, get_or, set, refl, ap, sym, subst, arith, below_more, Some, None, Option}
use Rattle.std.proofs.lemmas.Bool.Decides.{nat_tests}
use Rattle.std.proofs.lemmas.List.{get_or-set_same, get_or-set_other, length-set}
use Rattle.std.proofs.lemmas.Grind.{get_or_default_zero}
use Rattle.std.proofs.Math.ListN.{get_or-append}
use Rattle.std.proofs.Math.Seq.{get_or-append_seam}
use Rattle.mrs_text.specs.Written.{place_of, option_suc}
use Rattle.mrs_text.specs.Inner.Writing.{Known, AreSlots}

same : (v : ℕ) → (v == v) ≡ true
same v = grind (arith, nat_tests)

differs : (v w : ℕ) → v ≢ w → (v == w) ≡ false
differs v w n = grind (arith, nat_tests)

-- the first place at which it stands
pub place_is : (v : ℕ) (ws : List ℕ) (i : ℕ) → i < length ws → get_or ws i 0 ≡ v → ((j : ℕ) → j < i → get_or ws j 0 ≢ v) → place_of v ws ≡ Some i
place_is v [] i l e first = absurd (omega arith)
place_is v (w ∷ ws) zero l e first = rw (e, same v) refl
place_is v (w ∷ ws) (suc i) l e first =
    let n : v ≢ w = λ q. first 0 (omega arith) (sym q) in
    rw (differs v w n) (ap option_suc (place_is v ws i (omega arith) e (λ j h. first (suc j) (omega arith))) ∙ ap Some (omega arith))

pub place_none : (v : ℕ) (ws : List ℕ) → ((j : ℕ) → j < length ws → get_or ws j 0 ≢ v) → place_of v ws ≡ None
place_none v [] none = refl
place_none v (w ∷ ws) none =
    let n : v ≢ w = λ q. none 0 (omega arith) (sym q) in
    rw (differs v w n) (ap option_suc (place_none v ws (λ j h. none (suc j) (omega arith))))

-- where it has no place it stands nowhere
by_eq : (b : Bool) (o : Option ℕ) → (if b then Some 0 else option_suc o) ≡ None → (b ≡ false) × (o ≡ None)
by_eq true o e = absurd (cc)
by_eq false None e = (refl, refl)
by_eq false (Some n) e = absurd (cc)

pub nowhere : (v : ℕ) (ws : List ℕ) → place_of v ws ≡ None → (j : ℕ) → j < length ws → get_or ws j 0 ≢ v
nowhere v [] e j l = absurd (omega arith)
nowhere v (w ∷ ws) e zero l = λ q. (let p = by_eq (v == w) (place_of v ws) e in let s = same v in let r : (v == w) ≡ true = subst (λ (z : ℕ). (v == z) ≡ true) (sym q) s in cc)
nowhere v (w ∷ ws) e (suc j) l = nowhere v ws (by_eq (v == w) (place_of v ws) e).1 j (omega arith)

-- what is at a slot
pub at_slot : (b : Known) (order slots : List ℕ) (v at : ℕ) → record { order = order; size = length slots } ≡ b → AreSlots order slots → get_or slots v 0 ≡ at → at < length order → get_or order at 0 ≡ v → place_of v b.order ≡ Some at
at_slot b order slots v at e s p l q =
    subst (λ (z : Known). place_of v z.order ≡ Some at) e
    (place_is v order at l q (λ j h f. (let k = s.placed j (omega arith) in let r : get_or slots v 0 ≡ j = subst (λ (z : ℕ). get_or slots z 0 ≡ j) f k in omega (arith, r, p, h))))

pub past_slots : (b : Known) (order slots : List ℕ) (v at : ℕ) → record { order = order; size = length slots } ≡ b → AreSlots order slots → get_or slots v 0 ≡ at → length order ≤ at → place_of v b.order ≡ None
past_slots b order slots v at e s p l =
    subst (λ (z : Known). place_of v z.order ≡ None) e
    (place_none v order (λ j h f. (let k = s.placed j h in let r : get_or slots v 0 ≡ j = subst (λ (z : ℕ). get_or slots z 0 ≡ j) f k in omega (arith, r, p, l, h))))

pub other_slot : (b : Known) (order slots : List ℕ) (v at : ℕ) → record { order = order; size = length slots } ≡ b → AreSlots order slots → get_or slots v 0 ≡ at → at < length order → get_or order at 0 ≢ v → place_of v b.order ≡ None
other_slot b order slots v at e s p l n =
    subst (λ (z : Known). place_of v z.order ≡ None) e
    (place_none v order (λ j h f. (let k = s.placed j h in let r : get_or slots v 0 ≡ j = subst (λ (z : ℕ). get_or slots z 0 ≡ j) f k in n (subst (λ (z : ℕ). get_or order z 0 ≡ v) (sym r ∙ p) f))))

-- one more
pub slots_more : (b : Known) (order slots : List ℕ) (v n : ℕ) → n ≡ length order → record { order = order; size = length slots } ≡ b → AreSlots order slots → v < b.size → place_of v b.order ≡ None → AreSlots (order ++ v ∷ []) (set slots v n)
slots_more b order slots v n k e s l none =
    let lt : v < length slots = subst (λ (z : Known). v < z.size) (sym e) l in
    let free : place_of v order ≡ None = subst (λ (z : Known). place_of v z.order ≡ None) (sym e) none in
    let m : length (order ++ v ∷ []) ≡ length order + 1 = length-append order (v ∷ []) in
    let z = length-set slots v n in
    record {
      within = λ i h. rw (length-set slots v n) (below_more (λ j. get_or (order ++ v ∷ []) j 0 < length slots) (length order)
          (λ j q. rw (get_or-append order (v ∷ []) 0 j q) (s.within j q)) (rw (get_or-append_seam order v [] 0) lt) i (omega (arith, m, h)));
      placed = λ i h. below_more (λ j. get_or (set slots v n) (get_or (order ++ v ∷ []) j 0) 0 ≡ j) (length order)
          (λ j q. rw (get_or-append order (v ∷ []) 0 j q, get_or-set_other slots v (get_or order j 0) n 0 (nowhere v order free j q)) (s.placed j q))
          (rw (get_or-append_seam order v [] 0, get_or-set_same slots v n 0 lt) k) i (omega (arith, m, h));
    }

-- what the code reads: a slot, and what stands at that place
pub seen_at : (b : Known) (order slots : List ℕ) (v at known : ℕ) → record { order = order; size = length slots } ≡ b → AreSlots order slots → v < b.size → at ≡ get_or slots v at → at < length order
    → known ≡ get_or order at known → known ≡ v → Some at ≡ place_of v b.order
seen_at b order slots v at known e s l a h k q =
    let lt : v < length slots = subst (λ (z : Known). v < z.size) (sym e) l in
    sym (at_slot b order slots v at e s (sym (a ∙ get_or_default_zero slots v at lt)) h (sym (k ∙ get_or_default_zero order at known h) ∙ q))

pub other_at : (b : Known) (order slots : List ℕ) (v at known : ℕ) → record { order = order; size = length slots } ≡ b → AreSlots order slots → v < b.size → at ≡ get_or slots v at → at < length order
    → known ≡ get_or order at known → known ≢ v → None ≡ place_of v b.order
other_at b order slots v at known e s l a h k n =
    let lt : v < length slots = subst (λ (z : Known). v < z.size) (sym e) l in
    sym (other_slot b order slots v at e s (sym (a ∙ get_or_default_zero slots v at lt)) h (λ q. n (k ∙ get_or_default_zero order at known h ∙ q)))

pub past_at : (b : Known) (order slots : List ℕ) (v at : ℕ) → record { order = order; size = length slots } ≡ b → AreSlots order slots → v < b.size → at ≡ get_or slots v at → length order ≤ at → None ≡ place_of v b.order
past_at b order slots v at e s l a h =
    let lt : v < length slots = subst (λ (z : Known). v < z.size) (sym e) l in
    sym (past_slots b order slots v at e s (sym (a ∙ get_or_default_zero slots v at lt)) h)
