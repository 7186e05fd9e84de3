use Rattle.std.proofs.Common.{◌≡◌, ◌++◌, map, drop}
use Rattle.book_signs.specs.Trees.{SignTree}
use Rattle.generated_leaves.specs.Views.{told_seen, leaf_seen}
use Rattle.generated_leaves.specs.Inner.Picking.{picked, some_deep}
use Rattle.generated_leaves.proofs.leaves.pick.Given as goal

abbrev pub invariant-loop-one : goal.invariant-loop-one
invariant-loop-one l = record {
  leaves : (t : SignTree) → map (leaf_seen t) l.leaves.items ++ picked l.bag l.most l.empty (map (told_seen t) (drop l.one-index l.told)) ≡ picked l.bag l.most l.empty (map (told_seen t) l.told);
  flat : (t : SignTree) → some_deep l.bag l.most l.empty (map (told_seen t) (drop l.one-index l.told)) ≡ some_deep l.bag l.most l.empty (map (told_seen t) l.told);
}
