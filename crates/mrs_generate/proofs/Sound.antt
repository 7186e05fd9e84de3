-- What holds of each known leaf.
use Rattle.std.specs.Prelude.{All, List, Option, map}
use Rattle.std.proofs.Common.{sym, subst}
use Rattle.fs_model.specs.Claims.{IsOrder}
use Rattle.fs_model.specs.Closure.{AreConsistent}
use Rattle.chart_model.specs.declared.counts.Counts.{Counts}
use Rattle.tree_model.specs.Mothers.{Meant}
use Rattle.tree_model.specs.Signs.{Signs, rule_system}
use Rattle.tree_model.specs.Lexical.{Words}
use Rattle.chart_core.specs.declared.Limits.{Limits}
use Rattle.generate_model.specs.Contributions.{Input}
use Rattle.generate_model.specs.Covers.{IsCount}
use Rattle.generate_model.proofs.Told.{leaves_are_counted}
use Rattle.rule_trees.specs.Mothers.{IsMade}
use Rattle.tree_structures.specs.Laws.{FullsAreSound, FullsAreMade}
use Rattle.generated_leaves.specs.Placed.{own_by_place}
use Rattle.generated_leaves.specs.Leaves.{WordLeaf}
use Rattle.mrs_generate.specs.Inner.Known.{IsKnown}
use Rattle.mrs_generate.proofs.Lists.{all_of}

module _ {A : Type 0} (f : A → WordLeaf) (g : Signs) (words : Words) (input : Input) (limits : Limits) (own : List (Option Counts)) (bound : Counts) (xs : List A) (known : IsKnown g words input limits own bound (map f xs)) where
  -- what its full structure means is consistent
  pub known_sound : FullsAreSound → All (λ a. AreConsistent g.system (Meant (rule_system g) (f a).full)) xs
  known_sound sound = all_of f (λ x. AreConsistent g.system (Meant (rule_system g) x.full)) xs (λ n x at. sound g x.tree x.full (known.leaves.each n x at).full)

  -- it is an entry's, or made by a rule
  pub known_made : FullsAreMade → All (λ a. IsMade g (f a).full) xs
  known_made made = all_of f (λ x. IsMade g x.full) xs (λ n x at. made g x.tree x.full (known.leaves.each n x at).full)

  -- its cover is one that may be
  pub known_proper : IsOrder g.system → All (λ a. IsCount bound (f a).cover) xs
  known_proper o = all_of f (λ x. IsCount bound x.cover) xs
      (λ n x at.
      let h = known.leaves.each n x at in
      subst (λ b. IsCount b x.cover) (sym known.bound_is) (leaves_are_counted g o words input limits.lexical limits.empty (own_by_place g own) known.told x.tree x.cover h.leaf h.covering))
