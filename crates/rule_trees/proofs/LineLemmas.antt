-- Phrase rules of a chart by number, at their places.
use Rattle.std.proofs.Common.{ℕ, ◌≡◌, ◌<◌, ◌∙◌, List, length, Option, None, Some, sym, ap, subst}
use Rattle.std.proofs.lemmas.Option.{get_or_from_slice_get}
use Rattle.std.specs.Prelude.{slice_get, slice_index_or, MatchOption}
use Rattle.tree_model.specs.Mothers.{arity_at}
use Rattle.tree_model.specs.Structures.{Structure}
use Rattle.tree_model.specs.Mothers.{IsFullAt}
use Rattle.tree_model.specs.Signs.{Signs, rule_system, placed_rules, place_at}
use Rattle.book_signs.specs.Trees.{phrase_rules_of}
use Rattle.rule_trees.specs.Mothers.{HasDaughters, IsMother}
use Rattle.rule_trees.specs.Wholes.{IsRuled}
use Rattle.rule_trees.proofs.PlaceLemmas.{phrase_at, phrases_long}

pub numbered_below : (g : Signs) (rules : List ℕ) (rule : ℕ) → rules ≡ phrase_rules_of g → rule < length (rule_system g).rules → rule < length rules
numbered_below g rules rule is l = subst (λ n. rule < n) (sym (ap length is ∙ phrases_long g)) l

-- the place that stands under a rule's number is the rule's
place_read : (g : Signs) (rules : List ℕ) (rule d : ℕ) (is : rules ≡ phrase_rules_of g) (l : rule < length (rule_system g).rules) → slice_index_or rules rule d ≡ (phrase_at g rule l).place
place_read g rules rule d is l = get_or_from_slice_get rules rule (phrase_at g rule l).place d (ap (λ rs. slice_get rs rule) is ∙ (phrase_at g rule l).numbered)

pub named_place : (g : Signs) (rules : List ℕ) (rule d : ℕ) → rules ≡ phrase_rules_of g → rule < length (rule_system g).rules → slice_index_or rules rule d ≡ place_at (slice_get (placed_rules g) rule)
named_place g rules rule d is l = place_read g rules rule d is l ∙ sym (phrase_at g rule l).place_is

pub phrase_daughters : (g : Signs) (rules : List ℕ) (rule d count : ℕ) → rules ≡ phrase_rules_of g → IsRuled g rule count → HasDaughters g (slice_index_or rules rule d) count
phrase_daughters g rules rule d count is ruled =
    let z = phrase_at g rule ruled.0 in
    subst (λ p. HasDaughters g p count) (sym (place_read g rules rule d is ruled.0))
    (record { instance = z.instance; at = z.at; arity = sym (ruled.1 ∙ ap (λ o. arity_at (rule_system g) o) z.rule_is) })

-- a mother under the rule of a place is one under the rule of its number
pub full_numbered : (g : Signs) (rules : List ℕ) (rule d : ℕ) (fs : List Structure) (f : Structure) → rules ≡ phrase_rules_of g → rule < length (rule_system g).rules
    → IsMother g (slice_index_or rules rule d) fs f → IsFullAt (rule_system g) (slice_get (rule_system g).rules rule) fs f
full_numbered g rules rule d fs f is l h =
    let z = phrase_at g rule l in
    subst (λ o. IsFullAt (rule_system g) o fs f) (z.rule_there ∙ sym z.rule_is) (subst (λ p. IsMother g p fs f) (place_read g rules rule d is l) h)

pub full_placed : (g : Signs) (rules : List ℕ) (rule d : ℕ) (fs : List Structure) (f : Structure) → rules ≡ phrase_rules_of g → rule < length (rule_system g).rules
    → IsFullAt (rule_system g) (slice_get (rule_system g).rules rule) fs f → IsMother g (slice_index_or rules rule d) fs f
full_placed g rules rule d fs f is l h =
    let z = phrase_at g rule l in
    subst (λ p. IsMother g p fs f) (sym (place_read g rules rule d is l)) (subst (λ o. IsFullAt (rule_system g) o fs f) (z.rule_is ∙ sym z.rule_there) h)

pub match_both : {T : Type 0} {A B : Type 0} {P Q : T → Type 0} (o : Option T) → (A → B) → ((x : T) → P x → Q x) → MatchOption o A P → MatchOption o B Q
match_both None f g m = f m
match_both (Some x) f g m = g x m
