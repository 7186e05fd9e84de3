use Rattle.type_hierarchy.specs.Inner.Reach.{lists}
use Rattle.glb_completion.proofs.SortLemmas.{lists_sorted, reordered, reordered_few}
use Rattle.glb_completion.proofs.completion.complete.Goals as goal

pub of_sets-requires : goal.of_sets-requires
of_sets-requires c =
    reordered c.args.h c.count-count.ensures.laws c.in_ok-family.family.sets.keys c.in_ok-family.family.above.items c.in_ok-added.added.items c.sort.new.self.items c.count-count.result c.as_slice.result.now
    c.in_ok-family.ensures.growing c.in_ok-family.ensures.family c.count-count.ensures.count c.as_slice.ensures.keys c.in_ok-added.ensures c.in_ok-sort.ensures.permutation

pub returns-clause-completion : goal.returns-clause-completion
returns-clause-completion c = record {
  added = lists c.sort.new.self.items;
  table_is = c.in_ok-of_sets.ensures;
  family = reordered c.args.h c.count-count.ensures.laws c.in_ok-family.family.sets.keys c.in_ok-family.family.above.items c.in_ok-added.added.items c.sort.new.self.items c.count-count.result c.as_slice.result.now
      c.in_ok-family.ensures.growing c.in_ok-family.ensures.family c.count-count.ensures.count c.as_slice.ensures.keys c.in_ok-added.ensures c.in_ok-sort.ensures.permutation;
  in_order = lists_sorted c.sort.new.self.items c.in_ok-sort.ensures.sorted;
  few = reordered_few c.args.h c.count-count.ensures.laws c.in_ok-family.family.sets.keys c.in_ok-family.family.above.items c.in_ok-added.added.items c.sort.new.self.items c.count-count.result c.as_slice.result.now
      c.in_ok-family.ensures.growing c.count-count.ensures.count c.as_slice.ensures.keys c.in_ok-added.ensures c.in_ok-sort.ensures.permutation;
}
