use Rattle.std.proofs.Common.{◌∙◌}
use Rattle.derivation.proofs.Counting.{by_held_first, by_held_second}
use Rattle.derivation.proofs.counts.compare_word_counts.Goals as goal

pub returns-then-count-most : goal.returns-then-count-most
returns-then-count-most c =
    let right = c.requires c.if-counted.true in
    c.cmp.ensures ∙ by_held_first _ _ _ _ (c.count_of-count.ensures right.0) (c.count_of-other_count.ensures right.1) c.if-count-most.true

pub returns-then-other_count-most : goal.returns-then-other_count-most
returns-then-other_count-most c =
    let right = c.requires c.if-counted.true in
    by_held_second _ _ _ _ (c.count_of-count.ensures right.0) (c.count_of-other_count.ensures right.1) c.if-count-most.false c.if-other_count-most.true
