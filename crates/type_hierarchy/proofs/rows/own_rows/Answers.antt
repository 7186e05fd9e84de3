use Rattle.std.proofs.Common.{◌∷◌, [], length-append, ap, length, arith}
use Rattle.type_hierarchy.specs.Bits.{IsRow}
use Rattle.type_hierarchy.proofs.RowLemmas.{push_all}
use Rattle.type_hierarchy.proofs.RaiseLemmas.{own_bits, own_push}
use Rattle.type_hierarchy.proofs.rows.own_rows.Goals as goal

pub loop-t-preserved : goal.loop-t-preserved
loop-t-preserved c = record {
  rows_are = push_all (λ row. IsRow c.args.count row.items) c.loop-t.rows.items _ c.mark.new.row c.loop-t.invariant.rows_are (c.mark.ensures.row c.args.count c.loop-t-test.true c.in_ok-row.ensures.row) c.in_ok-push.ensures.items;
  size = omega (arith, ap length c.in_ok-push.ensures.items, length-append c.loop-t.rows.items (c.mark.new.row ∷ []), c.loop-t.invariant.size);
  own = own_push c.loop-t.rows.items _ c.mark.new.row c.loop-t.t c.loop-t.invariant.own c.loop-t.invariant.size
      (own_bits c.in_ok-row.row.items c.mark.new.row.items c.loop-t.t c.in_ok-row.ensures.none c.mark.ensures.has c.mark.ensures.others) c.in_ok-push.ensures.items;
}
