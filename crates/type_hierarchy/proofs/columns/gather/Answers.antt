use Rattle.std.proofs.Common.{◌≡◌, ◌<◌, ◌+◌, ◌∙◌, length, slice_index, sym, ap, arith}
use Rattle.std.proofs.lemmas.List.{get_or-set_other, get_or_read, length-set}
use Rattle.std.proofs.lemmas.Nat.{le_or_l, le_or_r}
use Rattle.type_hierarchy.specs.Inner.Reach.{lists}
use Rattle.type_hierarchy.specs.Inner.Rows.{row_at}
use Rattle.type_hierarchy.proofs.ColumnLemmas.{set_more}
use Rattle.type_hierarchy.proofs.RowLemmas.{row_is}
use Rattle.type_hierarchy.proofs.columns.gather.Goals as goal

pub loop-j-preserved : goal.loop-j-preserved
loop-j-preserved c =
    let block = c.loop-j.block in
    let j = c.loop-j.j in
    let word = c.index-word.result.now in
    let in_block : c.loop-j.j < length c.loop-j.block = omega (arith, c.loop-j.invariant.size, c.loop-j-test.true, c.min-count.ensures) in
    let in_rows : c.args.first + c.loop-j.j < length c.args.rows.now = omega (arith, c.loop-j-test.true, c.min-count.ensures) in
    let place : c.args.place < length c.index-rows-first.result.items =
    omega (arith, c.requires.place (c.args.first + c.loop-j.j) c.index-rows-first.result in_rows, ap (λ v. length v.items) c.index-rows-first.is) in
    let is = get_or_read c.index-rows-first.result.items _ _ place c.index-word.ensures 0
    ∙ ap (λ r. slice_index r c.args.place) (sym (row_is c.args.rows.now (c.args.first + j) c.index-rows-first.result in_rows c.index-rows-first.is)) in
    record {
      size = length-set block j word ∙ c.loop-j.invariant.size;
      done = set_more block j word (λ k. slice_index (row_at (lists c.args.rows.now) (c.args.first + k)) c.args.place) in_block is c.loop-j.invariant.done;
      rest = λ k h. get_or-set_other block j k word 0 (λ e. omega arith) ∙ c.loop-j.invariant.rest k (omega arith);
      none = λ e.
          let before : c.loop-j.some ≡ 0 = omega (arith, e, le_or_l c.loop-j.some word) in
          let here : c.index-word.result.now ≡ 0 = omega (arith, e, le_or_r c.loop-j.some word) in
          set_more block j word (λ k. 0) in_block here (c.loop-j.invariant.none before);
    }
