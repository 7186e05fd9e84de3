-- What is asked for is what the item of generation accepts, so what unpacking knows is what the item has.
use Rattle.std.specs.Prelude.{ℕ, ◌≡◌, Option, List, slice_get}
use Rattle.std.proofs.Common.{refl, sym, subst, ◌∙◌}
use mathlib.Core.Equiv.{iso_to_equiv}
use Rattle.chart_model.specs.declared.counts.Counts.{Counts}
use Rattle.tree_model.specs.Structures.{Structure}
use Rattle.tree_model.specs.Laws.{rules_full}
use Rattle.tree_model.specs.Signs.{Signs, rule_system, placed_rules, place_at}
use Rattle.tree_model.specs.Lexical.{Words}
use Rattle.tree_model.specs.Trees.{IsRooted}
use Rattle.tree_model.specs.Items.{LeafTree, Limits}
use Rattle.tree_model.specs.Forests.{wholes, leaf_at, full_at}
use Rattle.generate_model.specs.Bags.{bound_of, preds_of}
use Rattle.generate_model.specs.Contributions.{Input, Means, asked_of}
use Rattle.generate_model.specs.Realizations.{IsGenAccepted, gen_item}
use Rattle.generated_leaves.specs.Leaves.{WordLeaf}
use Rattle.realized_trees.specs.Wholes.{full_named, tree_named, wholes_of}
use Rattle.realized_trees.specs.Laws.{bare, WhollyAccepted}

-- two types with maps to and fro that undo one another are one
same_type : {A B : Type 0} (to : A → B) (from : B → A) → ((b : B) → to (from b) ≡ b) → ((a : A) → from (to a) ≡ a) → A ≡ B
same_type {A} {B} to from r l = λ i. V i A B (iso_to_equiv (record { fun = to; inv = from; rinv = r; linv = l }))

module _ (g : Signs) (words : Words) (input : Input) (most_rules most_empty : ℕ) (own : ℕ → Option Counts) where
  -- the counts of the input
  abbrev whole : List ℕ
  whole = (bound_of (preds_of input.meaning) most_empty).of

  abbrev Accepted : Structure → Counts → Type 0
  Accepted f c = IsGenAccepted g words (asked_of g input) most_rules most_empty own f c

  abbrev Asked : List ℕ → Structure → Counts → Type 0
  Asked counts f c = IsRooted g f × Means g (bare input) f × (c.of ≡ counts)

  to_means : (f : Structure) → Means g (bare input) f → Means g input f
  to_means f m = record { graph = m.graph; is = m.is; mrs = m.mrs; has = m.has; equal = m.equal }

  from_means : (f : Structure) → Means g input f → Means g (bare input) f
  from_means f m = record { graph = m.graph; is = m.is; mrs = m.mrs; has = m.has; equal = m.equal }

  to_accepted : (f : Structure) (c : Counts) → Asked whole f c → Accepted f c
  to_accepted f c a = record { rooted = a.0; means = to_means f a.1; whole = a.2 }

  from_accepted : (f : Structure) (c : Counts) → Accepted f c → Asked whole f c
  from_accepted f c a = (a.rooted, from_means f a.means, a.whole)

  accepted_same : (counts : List ℕ) → counts ≡ whole → (f : Structure) (c : Counts) → Asked counts f c ≡ Accepted f c
  unfolding to_means from_means to_accepted from_accepted
  accepted_same counts e f c = subst (λ n. Asked n f c ≡ Accepted f c) (sym e) (same_type (to_accepted f c) (from_accepted f c) (λ b. refl) (λ a. refl))

  -- where the leaves are those of the item
  pub wholes_same : (bound : Counts) → bound.of ≡ whole → (limits : Limits) (ls : List (LeafTree Counts)) (xs : List WordLeaf) →
      ((n : ℕ) → full_at (slice_get ls n) ≡ full_named (slice_get xs n)) → ((n : ℕ) → leaf_at (slice_get ls n) ≡ tree_named (slice_get xs n)) →
      wholes g (gen_item g words (asked_of g input) most_rules most_empty own) limits ls ≡ wholes_of g (bare input) bound xs
  wholes_same bound e limits ls xs fulls trees =
      λ i.
      record {
        leaf_full = λ n. fulls n i;
        leaf_tree = λ n. trees n i;
        full = rules_full (rule_system g);
        place = λ rule. place_at (slice_get (placed_rules g) rule);
        accepted = λ f c. (sym (accepted_same bound.of e f c)) i;
      }

pub wholly_accepted : WhollyAccepted
wholly_accepted g words input r z own bound e leaves f c = (
  λ a. to_accepted g words input r z own f c (a.0, a.1, a.2 ∙ e),
  λ a. let b = from_accepted g words input r z own f c a in (b.0, b.1, b.2 ∙ sym e),
)
