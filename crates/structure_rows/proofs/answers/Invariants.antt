use Rattle.std.proofs.Common.{All}
use Rattle.fs_unify.specs.Placing.{IsAnswerIn}
use Rattle.structure_rows.proofs.answers.Given as goal

abbrev pub invariant-loop-line : goal.invariant-loop-line
invariant-loop-line l = All (IsAnswerIn l.system) l.rows.made.items
