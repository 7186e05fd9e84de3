-- The laws of counts of rules.
use Rattle.std.proofs.Common.{ℕ, ◌≡◌, List, length, Option, Some, None, refl, sym, ◌∙◌, ap, arith}
use Rattle.std.specs.Prelude.{slice_get}
use Rattle.std.proofs.lemmas.List.{length-map}
use Rattle.std.proofs.lemmas.Slice.Zip.{AllZip-long}
use Rattle.fs_model.specs.Claims.{IsOrder}
use Rattle.chart_model.specs.declared.counts.Counts.{Counts}
use Rattle.tree_model.specs.Mothers.{Rule}
use Rattle.tree_model.specs.Signs.{Signs, Instance, a_phrase_rule, placed_rules, place_at}
use Rattle.generate_model.specs.Bags.{Word, counted, distinct, preds_of}
use Rattle.generated_leaves.specs.Counted.{or_first, own_at}
use Rattle.generate_model.specs.Contributions.{Input, OwnContribution, asked_of}
use Rattle.generate_model.specs.Realizations.{IsTold}
use Rattle.generate_model.proofs.Contributed.{inputs_are_told}
use Rattle.generated_leaves.specs.Given.{IsGivenAt, AreGiven, own_counts}
use Rattle.generated_leaves.specs.Placed.{own_by_place}
use Rattle.generated_leaves.specs.Laws.{OwnsAreEven, OwnsAgree, OwnsAreTold}
use Rattle.generated_leaves.proofs.ListLemmas.{zip_at, mapped_get, none_beside, some_beside}
use Rattle.generated_leaves.proofs.PlaceLemmas.{rules_rise, found_by_number, first_by_place, numbered}

pub owns_are_even : OwnsAreEven
owns_are_even g types paths c_cont given are places =
    length-map given (λ ws. counted places ws 0) ∙ AllZip-long (λ (r : ℕ × Rule) ws. IsGivenAt g types paths c_cont r.0 ws) (placed_rules g) given are ∙ sym (length-map (placed_rules g) (λ (r : ℕ × Rule). r.1))

pub owns_agree : OwnsAgree
owns_agree g own even rule = by_rule (slice_get (placed_rules g) rule) refl
  where
    long : length own ≡ length (placed_rules g)
    long = even ∙ length-map (placed_rules g) (λ (r : ℕ × Rule). r.1)

    by_rule : (o : Option (ℕ × Rule)) → slice_get (placed_rules g) rule ≡ o → own_by_place g own (place_at o) ≡ own_at own rule
    by_rule None e = first_by_place 0 (placed_rules g) own (rules_rise 0 g.instances) ∙ sym (ap (or_first own) (none_beside (placed_rules g) own rule long e))
    by_rule (Some r) e =
        let c = some_beside (placed_rules g) own rule r long e in
        let found = found_by_number 0 (placed_rules g) own rule r c.0 (rules_rise 0 g.instances) e c.1 in
        ap (or_first own) found.1 ∙ sym (ap (or_first own) c.1)

-- counts by place for an input
module _ (g : Signs) (input : Input) (given : List (List Word)) (are : AreGiven g input.types input.paths input.c_cont_path given) where
  abbrev places : List Word
  places = distinct (preds_of input.meaning)

  abbrev own : List (Option Counts)
  own = own_counts places given

  by_place : (place : ℕ) (i : Instance) → slice_get g.instances place ≡ Some i → i.kind ≡ a_phrase_rule → (ws : List Word) × OwnContribution g input place ws × (own_by_place g own place ≡ counted places ws 0)
  by_place place i at kind =
      let r = numbered 0 place place g.instances i (omega arith) at kind in
      let ws = zip_at (λ (q : ℕ × Rule) vs. IsGivenAt g input.types input.paths input.c_cont_path q.0 vs) (placed_rules g) given r.0 (place, i.rule) are r.1 in
      let found = found_by_number 0 (placed_rules g) own r.0 (place, i.rule) (counted places ws.value 0) (rules_rise 0 g.instances) r.1 (mapped_get (λ vs. counted places vs 0) given r.0 ws.value ws.at) in
      (ws.value, ws.is input.meaning, ap (or_first own) found.1)

  pub owns_are_told_of : IsOrder g.system → IsTold g (asked_of g input) (own_by_place g own)
  owns_are_told_of o = inputs_are_told g o input (own_by_place g own) by_place

pub owns_are_told : OwnsAreTold
owns_are_told g o input given are = owns_are_told_of g input given are o
