use Rattle.std.proofs.Common.{◌≡◌, ◌%◌, ◌==◌, ◌||◌, slice_set, bit_or, sym, subst, arith}
use Rattle.std.specs.Int.{bit_at}
use Rattle.std.proofs.lemmas.List.{get_or_read}
use Rattle.type_hierarchy.specs.Bits.{has_bit, IsRow}
use Rattle.type_hierarchy.proofs.BitLemmas.{word_here, word_apart, row_with_word}
use Rattle.type_hierarchy.proofs.bits.add_word.Goals as goal

pub returns-clause-has : goal.returns-clause-has
returns-clause-has c = λ x here.
    let row = c.args.row.now.items in
    let is = get_or_read row _ _ c.requires c.index_mut.ensures.value 0 in
    subst (λ w. has_bit (slice_set row c.args.place (bit_or w c.args.word)) x ≡ (has_bit row x || (bit_at c.args.word (x % 64) == 1))) (sym is)
    (word_here row c.args.place c.args.word x c.requires here)

pub returns-clause-others : goal.returns-clause-others
returns-clause-others c = λ x apart.
    let row = c.args.row.now.items in
    let is = get_or_read row _ _ c.requires c.index_mut.ensures.value 0 in
    subst (λ w. has_bit (slice_set row c.args.place (bit_or w c.args.word)) x ≡ has_bit row x) (sym is) (word_apart row c.args.place c.args.word x apart)

pub returns-clause-row : goal.returns-clause-row
returns-clause-row c = λ n ends old.
    let row = c.args.row.now.items in
    let is = get_or_read row _ _ c.requires c.index_mut.ensures.value 0 in
    subst (λ w. IsRow n (slice_set row c.args.place (bit_or w c.args.word))) (sym is) (row_with_word n row c.args.place c.args.word c.requires (omega arith) ends old)
