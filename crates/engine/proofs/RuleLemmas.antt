-- Phrase rules by place.
use Rattle.std.proofs.Common.{ℕ, suc, ◌≡◌, ◌+◌, ◌≤◌, ◌<◌, List, [], ◌∷◌, length, map, Bool, true, false, if◌then◌else◌, Some, option_map, refl, sym, ◌∙◌, ap, subst, arith}
use Rattle.std.specs.Prelude.{All, slice_get}
use Rattle.std.proofs.lemmas.List.Elements.{All-nil, All-cons}
use Rattle.fs_model.specs.Claims.{Path, Has, here, there}
use Rattle.fs_model.specs.Sources.{Source}
use Rattle.tree_model.specs.Mothers.{Rule}
use Rattle.tree_model.specs.Signs.{Kind, an_entry, a_lexical_rule, a_phrase_rule, a_root, another, Instance, Signs, is_phrase_rule, phrase_rules, placed_rules}
use Rattle.book_signs.specs.Trees.{rule_at, facts_at, places_at, places_where, phrase_rules_of, HasArity, HaveArities}
use Rattle.engine.specs.Inner.Ruled.{IsPhraseRuleAt}

some-is : {A : Type 0} (x y : A) → Some x ≡ Some y → x ≡ y
some-is x y e = cc

-- the rule at a place, by its facts and places
pub rule-is : (g : Signs) (place : ℕ) (i : Instance) (facts : Source) (places : List Path) → slice_get g.instances place ≡ Some i → facts_at g place ≡ Some facts → places_at g place ≡ Some places
    → rule_at g place ≡ Some (record { facts = facts; places = places })
rule-is g place i facts places at f p =
    let rule : rule_at g place ≡ Some i.rule = ap (option_map (λ (x : Instance). x.rule)) at in
    let a : i.rule.facts ≡ facts = some-is i.rule.facts facts (sym (ap (option_map (λ (r : Rule). r.facts)) rule) ∙ f) in
    let b : i.rule.places ≡ places = some-is i.rule.places places (sym (ap (option_map (λ (r : Rule). r.places)) rule) ∙ p) in
    rule ∙ (λ k. Some (record { facts = a k; places = b k }))

-- it has one to four daughters
pub few-daughters : (g : Signs) (place : ℕ) (i : Instance) (places : List Path) → slice_get g.instances place ≡ Some i → i.kind ≡ a_phrase_rule → places_at g place ≡ Some places → HaveArities g
    → (0 < length places) × (length places ≤ 4)
few-daughters g place i places at kind p arities =
    let rule : rule_at g place ≡ Some i.rule = ap (option_map (λ (x : Instance). x.rule)) at in
    let b : i.rule.places ≡ places = some-is i.rule.places places (sym (ap (option_map (λ (r : Rule). r.places)) rule) ∙ p) in
    let n = subst (λ k. HasArity k (length i.rule.places)) kind (arities place i at) in
    let m : (1 ≤ length places) × (length places ≤ 4) = subst (λ ps. (1 ≤ length ps) × (length ps ≤ 4)) b n in
    (omega (arith, m.0), m.1)

is-phrase : (k : Kind) → is_phrase_rule k ≡ true → k ≡ a_phrase_rule
is-phrase an_entry e = cc
is-phrase a_lexical_rule e = cc
is-phrase a_phrase_rule e = refl
is-phrase a_root e = cc
is-phrase another e = cc

module _ (g : Signs) where
  -- instances from a place on
  abbrev Stand : ℕ → List Instance → Type 0
  Stand p is = (k : ℕ) (i : Instance) → slice_get is k ≡ Some i → slice_get g.instances (p + k) ≡ Some i

  later : (p : ℕ) (i : Instance) (is : List Instance) → Stand p (i ∷ is) → Stand (p + 1) is
  later p i is h k j e = let n : p + suc k ≡ p + 1 + k = omega arith in subst (λ m. slice_get g.instances m ≡ Some j) n (h (suc k) j e)

  first : (p : ℕ) (i : Instance) (is : List Instance) → Stand p (i ∷ is) → slice_get g.instances p ≡ Some i
  first p i is h = let n : p + 0 ≡ p = omega arith in subst (λ m. slice_get g.instances m ≡ Some i) n (h 0 i refl)

  rules-from : (p : ℕ) (is : List Instance) → Stand p is → map (rule_at g) (places_where is_phrase_rule p (map (λ i. i.kind) is)) ≡ map (λ r. Some r.1) (phrase_rules p is)
  rules-from p [] h = refl
  rules-from p (i ∷ is) h = by_kind (is_phrase_rule i.kind) (rules-from (p + 1) is (later p i is h))
    where
      by_kind : (b : Bool) → map (rule_at g) (places_where is_phrase_rule (p + 1) (map (λ j. j.kind) is)) ≡ map (λ r. Some r.1) (phrase_rules (p + 1) is)
          → map (rule_at g) (if b then p ∷ places_where is_phrase_rule (p + 1) (map (λ j. j.kind) is) else places_where is_phrase_rule (p + 1) (map (λ j. j.kind) is))
          ≡ map (λ r. Some r.1) (if b then (p, i.rule) ∷ phrase_rules (p + 1) is else phrase_rules (p + 1) is)
      by_kind true e = let x : rule_at g p ≡ Some i.rule = ap (option_map (λ (y : Instance). y.rule)) (first p i is h) in λ k. x k ∷ e k
      by_kind false e = e

  kinds-from : (p : ℕ) (is : List Instance) → Stand p is → All (IsPhraseRuleAt g) (places_where is_phrase_rule p (map (λ i. i.kind) is))
  kinds-from p [] h = All-nil (IsPhraseRuleAt g)
  kinds-from p (i ∷ is) h = by_kind (is_phrase_rule i.kind) refl (kinds-from (p + 1) is (later p i is h))
    where
      by_kind : (b : Bool) → is_phrase_rule i.kind ≡ b → All (IsPhraseRuleAt g) (places_where is_phrase_rule (p + 1) (map (λ j. j.kind) is))
          → All (IsPhraseRuleAt g) (if b then p ∷ places_where is_phrase_rule (p + 1) (map (λ j. j.kind) is) else places_where is_phrase_rule (p + 1) (map (λ j. j.kind) is))
      by_kind true e a = All-cons (IsPhraseRuleAt g) p (places_where is_phrase_rule (p + 1) (map (λ j. j.kind) is)) (i, first p i is h, is-phrase i.kind e) a
      by_kind false e a = a

  all-stand : Stand 0 g.instances
  all-stand k i e = let n : k ≡ 0 + k = omega arith in subst (λ m. slice_get g.instances m ≡ Some i) n e

  -- the rules at the places of phrase rules
  pub rules-there : map (rule_at g) (phrase_rules_of g) ≡ map (λ r. Some r.1) (placed_rules g)
  rules-there = rules-from 0 g.instances all-stand

  pub kinds-there : All (IsPhraseRuleAt g) (phrase_rules_of g)
  kinds-there = kinds-from 0 g.instances all-stand

-- lists whose elements are told by Some
pub unsome : {A B C : Type 0} (f : A → C) (h : B → C) (xs : List A) (ys : List B) → map (λ x. Some (f x)) xs ≡ map (λ y. Some (h y)) ys → map f xs ≡ map h ys
unsome f h [] [] e = refl
unsome f h [] (y ∷ ys) e = cc
unsome f h (x ∷ xs) [] e = cc
unsome {A} {B} {C} f h (x ∷ xs) (y ∷ ys) e =
    let one : Some (f x) ≡ Some (h y) = cc in
    let head : f x ≡ h y = some-is (f x) (h y) one in
    let more : map (λ x. Some (f x)) xs ≡ map (λ y. Some (h y)) ys = cc in
    let tail = unsome f h xs ys more in
    λ k. head k ∷ tail k

pub has-all : {A : Type 0} (P : A → Type 0) (x : A) (xs : List A) → All P xs → Has x xs → P x
has-all P x _ h (here {ys}) = h 0 x (omega arith)
has-all P x _ h (there {y} {ys} k) = has-all P x ys (λ i d lt. h (suc i) d (omega (arith, lt))) k
