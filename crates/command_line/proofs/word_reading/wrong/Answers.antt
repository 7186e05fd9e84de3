use Rattle.std.proofs.Common.{inl}
use Rattle.command_line.proofs.Ends.{is-wrong}
use Rattle.command_line.proofs.word_reading.wrong.Goals as goal

pub returns : goal.returns
returns c = λ words before first at ends. inl (is-wrong words before c.args.place c.args.last.now c.args.word.now c.told_by.result.now c.cause_at-cause.result c.cause_at-cause.ensures c.told_by.ensures first at ends)
