use Rattle.type_hierarchy.proofs.RowLemmas.{zero_row, no_bits}
use Rattle.type_hierarchy.proofs.bits.empty.Goals as goal

pub returns : goal.returns
returns c =
    let zeros = c.in_ok-row.ensures.items_if_clones_equal (λ y e. e) in
    record { row = zero_row _ _ c.args.count zeros c.word_count.ensures.enough c.word_count.ensures.no_more; none = no_bits _ _ zeros }
