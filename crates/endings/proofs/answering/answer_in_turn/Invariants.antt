use Rattle.std.proofs.Common.{◌≡◌, ◌+◌, ◌≤◌, take, length, vec_len, vec_capacity}
use Rattle.side_by_side.specs.Works.{AreGiven}
use Rattle.endings.specs.Inner.Batches.{IsTold}
use Rattle.endings.proofs.answering.answer_in_turn.Given as goal

abbrev pub invariant-loop-place : goal.invariant-loop-place
invariant-loop-place g l = record {
  given : AreGiven (λ place line a. IsTold (g.C.Answers.IsAnswer l.command) (g.C.Answers.IsNote l.command) (l.number + place) line.items a) 0 (take l.place l.lines) l.told.items;
  count : vec_len l.told ≡ l.place;
  room : length l.lines ≤ vec_capacity l.told;
}
