use Rattle.std.proofs.Common.{◌≡◌, ◌≤◌, ◌-◌, length, filter, take, slice_index_or}
use Rattle.type_hierarchy.specs.Table.{is_below}
use Rattle.fs_closing.specs.Rules.{no_rule}
use Rattle.fs_closing.specs.Systems.{rules_of}
use Rattle.fs_closing.proofs.rule_rows.row_above.Given as goal

abbrev pub invariant-loop-i : goal.invariant-loop-i
invariant-loop-i l =
    record {
      row_is : l.row.items ≡ filter (λ k. is_below l.types l.t (slice_index_or (rules_of l.constraints) k no_rule).ty) (take l.i l.outline.order.items);
      within : l.i ≤ length l.outline.order.items;
    }

abbrev pub decreases-loop-i : goal.decreases-loop-i
decreases-loop-i l = length l.outline.order.items - l.i
