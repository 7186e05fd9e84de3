use Rattle.std.proofs.Common.{◌<◌, ◌+◌, ◌%◌, ◌==◌, ◌||◌, ◌∙◌, length, slice_index, refl, sym, ap, arith}
use Rattle.std.specs.Int.{bit_at}
use Rattle.type_hierarchy.specs.Bits.{has_bit}
use Rattle.type_hierarchy.proofs.ColumnLemmas.{one_column, rows_set, scattered_more}
use Rattle.type_hierarchy.proofs.columns.scatter.Goals as goal

pub add_word-requires : goal.add_word-requires
add_word-requires c =
    let within : c.args.first + c.loop-j.j < length c.loop-j.columns = omega (arith, c.loop-j-test.true, c.min-count.ensures, c.loop-j.auto.columns) in
    let row = c.loop-j.invariant.rows c.requires.sized.0 c.requires.sized.2 c.requires.sized.3 (c.args.first + c.loop-j.j) c.index-columns-first.result within in
    omega (arith, row.enough, c.requires.sized.1)

pub loop-j-preserved : goal.loop-j-preserved
loop-j-preserved c =
    let columns = c.loop-j.columns in
    let x = c.args.first + c.loop-j.j in
    let word = slice_index c.args.block.now c.loop-j.j in
    let small : c.loop-j.j < 64 = omega (arith, c.loop-j-test.true, c.min-count.ensures) in
    let within : c.args.first + c.loop-j.j < length c.loop-j.columns = omega (arith, c.loop-j-test.true, c.min-count.ensures, c.loop-j.auto.columns) in
    let one = one_column columns _ x c.args.place word c.index-columns-first.result c.add_word.new.row within c.index-columns-first.is refl
    (λ y h. c.add_word.ensures.has y h ∙ ap (λ v. has_bit v.items y || (bit_at word (y % 64) == 1)) (sym c.index-columns-first.is))
    (λ y ne. c.add_word.ensures.others y ne ∙ ap (λ v. has_bit v.items y) (sym c.index-columns-first.is)) in
    record {
      grown = scattered_more c.args.columns.now columns _ c.args.block.now c.args.first c.args.place c.loop-j.j c.loop-j.invariant.grown one;
      rows = λ n ends all.
          let rows = c.loop-j.invariant.rows n ends all in
          rows_set n columns _ x c.add_word.new.row within refl
          (c.add_word.ensures.row n (λ i l e. ends c.loop-j.j i small l e) (rows x c.index-columns-first.result within)) rows;
    }
