-- Phrase rules by number and by place.
use Rattle.std.proofs.Common.{ℕ, zero, suc, ◌≡◌, ◌+◌, ◌<◌, ◌≤◌, Bool, true, false, List, [], ◌∷◌, length, map, take, Option, Some, None, refl, sym, ◌∙◌, ap, subst, arith, eqb-true, eq-eqb}
use Rattle.std.specs.Prelude.{slice_get, ◌==◌, All}
use Rattle.std.specs.List.{AllZip}
use Rattle.std.proofs.lemmas.List.{take_all}
use Rattle.std.proofs.lemmas.List.Elements.{All-cons, All-nil}
use Rattle.chart_model.specs.declared.counts.Counts.{Counts}
use Rattle.tree_model.specs.Mothers.{Rule}
use Rattle.tree_model.specs.Signs.{a_phrase_rule, Instance, Signs, is_phrase_rule, phrase_rules, placed_rules}
use Rattle.book_signs.specs.Trees.{phrase_rules_of}
use Rattle.book_signs.proofs.KindLemmas.{phrase_places}
use Rattle.generate_model.specs.Bags.{Word}
use Rattle.generated_leaves.specs.Counted.{first_of, or_first}
use Rattle.generated_leaves.specs.Placed.{counts_at}
use Rattle.generated_leaves.proofs.ListLemmas.{zip_unmapped}

-- places are at or above p, and rise
abbrev Rise : ℕ → List (ℕ × Rule) → Type 0
Rise p [] = Unit {0}
Rise p (r ∷ rs) = (p ≤ r.0) × Rise (r.0 + 1) rs

rise_from : (p q : ℕ) (rs : List (ℕ × Rule)) → q ≤ p → Rise p rs → Rise q rs
rise_from p q [] l h = tt
rise_from p q (r ∷ rs) l h = (let z = h.0 in omega (arith, l, z), h.1)

pub rules_rise : (p : ℕ) (is : List Instance) → Rise p (phrase_rules p is)
rules_rise p [] = tt
rules_rise p (i ∷ is) = by_kind (is_phrase_rule i.kind) refl (rules_rise (p + 1) is)
  where
    by_kind : (b : Bool) → is_phrase_rule i.kind ≡ b → Rise (p + 1) (phrase_rules (p + 1) is) → Rise p (phrase_rules p (i ∷ is))
    by_kind true e go = rw e (omega arith, go)
    by_kind false e go = rw e (rise_from (p + 1) p (phrase_rules (p + 1) is) (omega arith) go)

other : (a b : ℕ) → (a ≡ b → ⊥) → (a == b) ≡ false
other a b differ = by_test (a == b) refl
  where
    by_test : (t : Bool) → (a == b) ≡ t → (a == b) ≡ false
    by_test true e = absurd (differ (eqb-true a b e))
    by_test false e = e

-- what is found at the place of a rule's number is what stands at the number
pub found_by_number : (p : ℕ) (rs : List (ℕ × Rule)) (own : List (Option Counts)) (n : ℕ) (r : ℕ × Rule) (c : Option Counts) → Rise p rs → slice_get rs n ≡ Some r → slice_get own n ≡ Some c → (p ≤ r.0) × (counts_at rs own r.0 ≡ Some c)
found_by_number p [] own n r c h e f = absurd (cc)
found_by_number p (a ∷ rs) [] n r c h e f = absurd (cc)
found_by_number p (a ∷ rs) (b ∷ own) zero r c h e f =
    let x : a ≡ r = cc in let y : b ≡ c = cc in
    let low = h.0 in
    (subst (λ (w : ℕ × Rule). p ≤ w.0) x low, rw (eq-eqb a.0 r.0 (ap (λ (w : ℕ × Rule). w.0) x)) (ap Some y))
found_by_number p (a ∷ rs) (b ∷ own) (suc n) r c h e f =
    let z = found_by_number (a.0 + 1) rs own n r c h.1 e f in
    let low = h.0 in let above = z.0 in
    (omega (arith, low, above), rw (other a.0 r.0 (λ same. omega (arith, same, above))) z.1)

none_below : (p q : ℕ) (rs : List (ℕ × Rule)) (own : List (Option Counts)) → Rise p rs → q < p → counts_at rs own q ≡ None
none_below p q [] own h l = refl
none_below p q (r ∷ rs) [] h l = refl
none_below p q (r ∷ rs) (c ∷ own) h l =
    let low = h.0 in
    rw (other r.0 q (λ same. omega (arith, same, l, low))) (none_below (r.0 + 1) q rs own h.1 (omega (arith, l, low)))

-- the first place stands for the first rule, whether or not that is there
pub first_by_place : (p : ℕ) (rs : List (ℕ × Rule)) (own : List (Option Counts)) → Rise p rs → or_first own (counts_at rs own p) ≡ first_of own
first_by_place p [] own h = refl
first_by_place p (r ∷ rs) [] h = refl
first_by_place p (r ∷ rs) (c ∷ own) h = by_test (r.0 == p) refl
  where
    by_test : (t : Bool) → (r.0 == p) ≡ t → or_first (c ∷ own) (counts_at (r ∷ rs) (c ∷ own) p) ≡ c
    by_test true e = rw e refl
    by_test false e = rw (e, none_below (r.0 + 1) p rs own h.1 (let low = h.0 in omega (arith, low))) refl

-- a phrase rule has a number
pub numbered : (p n place : ℕ) (is : List Instance) (i : Instance) → place ≡ p + n → slice_get is n ≡ Some i → i.kind ≡ a_phrase_rule → (rule : ℕ) × (slice_get (phrase_rules p is) rule ≡ Some (place, i.rule))
numbered p n place [] i here e k = absurd (cc)
numbered p zero place (j ∷ is) i here e k =
    let x : j ≡ i = cc in
    let y : is_phrase_rule j.kind ≡ true = ap (λ (z : Instance). is_phrase_rule z.kind) x ∙ ap is_phrase_rule k in
    let z : p ≡ place = omega (arith, here) in
    (0, rw y (λ t. Some (z t, (x t).rule)))
numbered p (suc n) place (j ∷ is) i here e k = by_kind (is_phrase_rule j.kind) refl (numbered (p + 1) n place is i (omega (arith, here)) e k)
  where
    by_kind : (b : Bool) → is_phrase_rule j.kind ≡ b → (rule : ℕ) × (slice_get (phrase_rules (p + 1) is) rule ≡ Some (place, i.rule)) → (rule : ℕ) × (slice_get (phrase_rules p (j ∷ is)) rule ≡ Some (place, i.rule))
    by_kind true q go = (suc go.0, rw q go.1)
    by_kind false q go = (go.0, rw q go.1)

-- places are those of instances
places_low : (p : ℕ) (is : List Instance) → All (λ q. q < p + length is) (map (λ r. r.0) (phrase_rules p is))
places_low p [] = All-nil (λ q. q < p + 0)
places_low p (i ∷ is) = by_kind (is_phrase_rule i.kind) refl (subst (λ m. All (λ q. q < m) (map (λ r. r.0) (phrase_rules (p + 1) is))) (omega arith) (places_low (p + 1) is))
  where
    by_kind : (b : Bool) → is_phrase_rule i.kind ≡ b → All (λ q. q < p + length (i ∷ is)) (map (λ r. r.0) (phrase_rules (p + 1) is)) → All (λ q. q < p + length (i ∷ is)) (map (λ r. r.0) (phrase_rules p (i ∷ is)))
    by_kind true e go = rw e (All-cons (λ q. q < p + length (i ∷ is)) p (map (λ r. r.0) (phrase_rules (p + 1) is)) (omega arith) go)
    by_kind false e go = rw e go

pub rule_places_low : (g : Signs) → All (λ q. q < length g.instances) (phrase_rules_of g)
rule_places_low g =
    subst (λ ps. All (λ q. q < length g.instances) ps) (sym (phrase_places 0 g.instances))
    (subst (λ m. All (λ q. q < m) (map (λ r. r.0) (phrase_rules 0 g.instances))) (omega arith) (places_low 0 g.instances))

-- what was found for all places was found for all rules
pub all_rules : (g : Signs) (R : ℕ → List Word → Type 0) (places : List ℕ) (k : ℕ) (given : List (List Word)) → places ≡ phrase_rules_of g → length places ≤ k → AllZip R (take k places) given → AllZip (λ (r : ℕ × Rule) ws. R r.0 ws) (placed_rules g) given
all_rules g R places k given are past h =
    zip_unmapped R (λ (r : ℕ × Rule). r.0) (placed_rules g) given (subst (λ ps. AllZip R ps given) (take_all k places past ∙ are ∙ phrase_places 0 g.instances) h)
