use Rattle.std.proofs.Common.{arith, length-append, ap, length, ◌∷◌, []}
use Rattle.type_hierarchy.specs.Bits.{IsRow}
use Rattle.type_hierarchy.proofs.RowLemmas.{push_all, push_empty}
use Rattle.type_hierarchy.proofs.bits.empty_rows.Goals as goal

pub rows-preserved : goal.rows-preserved
rows-preserved c = record {
  within = omega (arith, ap length c.in_ok-push.ensures.items, length-append c.rows.rows.items (c.in_ok-row.row ∷ []), c.rows-test.true, c.rows.rows.ok);
  rows = push_all (λ row. IsRow c.args.count row.items) c.rows.rows.items _ c.in_ok-row.row c.rows.invariant.rows c.in_ok-row.ensures.row c.in_ok-push.ensures.items;
  none = push_empty c.rows.rows.items _ c.in_ok-row.row c.rows.invariant.none c.in_ok-row.ensures.none c.in_ok-push.ensures.items;
}
