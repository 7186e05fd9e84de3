use Rattle.std.proofs.Common.{ℕ, Vec, Global}
use Rattle.std.specs.Str.{IsUtf8}
use Rattle.self_tests.proofs.CountedLines.{all-at}
use Rattle.self_tests.proofs.turns.count_all.Goals as goal

pub each_by-drawn-requires-clause-ready : goal.each_by-drawn-requires-clause-ready
each_by-drawn-requires-clause-ready g c κs within place thing at =
    (c.requires.ready, c.requires.limits, all-at (λ (l : Vec ℕ Global). IsUtf8 l.items) c.args.lines.now place thing c.requires.text at)
