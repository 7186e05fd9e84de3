-- What contracts see of told trees and leaves.
use Rattle.std.specs.Prelude.{ℕ, ◌≡◌, ◌+◌, List, map, string_bytes}
use Rattle.std.specs.Arc.{arc_value}
use Rattle.fs_model.specs.Claims.{IsOrder}
use Rattle.derivation.specs.Views.{derivation_of}
use Rattle.generate_model.specs.Bags.{BagTree, bag_of, preds_of}
use Rattle.tree_model.specs.Lexical.{Words}
use Rattle.book_signs.specs.Trees.{SignTree, signs_of}
use Rattle.rule_trees.specs.Mothers.{view_in}
use Rattle.generate_model.specs.Contributions.{Input}
use Rattle.generated_leaves.specs.Told.{ToldWord, AreTold}
use Rattle.generated_leaves.specs.Leaves.{WordLeaf, GenLexical, TooDeep, Leaves}
use Rattle.generated_leaves.specs.declared.tree.ToldTree.{ToldTree}
use Rattle.generated_leaves.specs.declared.leaf.GenLeaf.{GenLeaf}
use Rattle.generated_leaves.specs.declared.leaves.GenLeaves.{GenLeaves}
use Rattle.generated_leaves.specs.declared.leaves.GenLeaves.TheVariants as found

module _ (t : SignTree) where
  abbrev pub told_seen : ToldTree → ToldWord
  told_seen x = record { tree = derivation_of x.tree; full = view_in t (arc_value x.full).graph; preds = map string_bytes x.preds.items }

  abbrev pub leaf_seen : GenLeaf → WordLeaf
  leaf_seen x = record { tree = derivation_of x.tree; cover = x.cover; full = view_in t (arc_value x.full).graph }

  abbrev pub leaves_seen : GenLeaves → GenLexical
  leaves_seen (found.TooDeep) = TooDeep
  leaves_seen (found.Leaves xs) = Leaves (map leaf_seen xs.items)

  -- An input asks for leaves of at most so many rules: the trees are told of this grammar, with the input's types and paths and up to one
  -- rule more, and the bag is the input's.
  pub record AreAsked (words : Words) (input : Input) (most : ℕ) (told : List ToldTree) (bag : BagTree) : Type 0 where
    pub order : IsOrder (signs_of t).system
    pub told_are : AreTold (signs_of t) words input.types input.paths (most + 1) (map told_seen told)
    pub bag_is : bag ≡ bag_of (preds_of input.meaning)
