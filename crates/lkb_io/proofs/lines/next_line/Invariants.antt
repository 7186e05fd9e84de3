use Rattle.std.proofs.Common.{◌≡◌, ℕ, ◌≤◌, ◌-◌, List, ◌++◌, length, take, false}
use Rattle.lkb_io.specs.Outside.{Takes}
use Rattle.lkb_io.specs.Lines.{IsTooLong, HasNoEnd}
use Rattle.lkb_io.proofs.lines.next_line.Given as goal

abbrev pub invariant-loop-at : goal.invariant-loop-at
invariant-loop-at g l = record {
  room : length l.buffer ≤ 65536;
  in_range : l.seen ≤ length l.buffer;
  none_seen : HasNoEnd (take l.seen l.buffer);
  now_open : l.ended ≡ false;
  was_open : l.fn.ended ≡ false;
  came : (came : List ℕ) × Takes (g.S.Source.left l.fn.source) (g.S.Source.left l.source) came × (l.buffer ≡ l.fn.buffer ++ came);
  no_fall : g.S.Source.faults l.fn.source ≤ g.S.Source.faults l.source;
  again : IsTooLong l.fn.buffer → (l.source ≡ l.fn.source) × (l.buffer ≡ l.fn.buffer);
}

abbrev pub decreases-loop-at : goal.decreases-loop-at
decreases-loop-at g l = 65536 - length l.buffer
