use Rattle.std.proofs.Common.{subst, map, string_bytes, [], ◌∷◌}
use Rattle.command_line.specs.Words.{IsValue}
use Rattle.command_line.specs.Fronts.{IsAt, value_in}
use Rattle.command_line.proofs.Steps.{end-refused, value-taken, value-refused}
use Rattle.command_line.proofs.Ends.{not-so}
use Rattle.command_line.proofs.word_reading.next.Goals as goal

pub returns-in-PastEnd : goal.returns-in-PastEnd
returns-in-PastEnd c = λ at g. end-refused (map (λ w. string_bytes w) c.args.before.now) c.args.word.now g.0 g.1 (subst (IsAt (map (λ w. string_bytes w) c.args.before.now)) c.in-PastEnd.is at) g.2

pub returns-then-fits : goal.returns-then-fits
returns-then-fits c = λ at. value-taken (map (λ w. string_bytes w) c.args.before.now) c.in-OfOption.command c.in-OfOption.filled c.in-OfOption.wanted c.args.word.now
    (subst (IsAt (map (λ w. string_bytes w) c.args.before.now)) c.in-OfOption.is at) (c.fits.ensures.0 c.if-fits.true)

pub returns-else-fits : goal.returns-else-fits
returns-else-fits c = λ at. value-refused (map (λ w. string_bytes w) c.args.before.now) c.in-OfOption.command c.in-OfOption.filled c.in-OfOption.wanted c.args.word.now
    (subst (IsAt (map (λ w. string_bytes w) c.args.before.now)) c.in-OfOption.is at) (not-so c.fits.result (IsValue (value_in c.in-OfOption.wanted) (c.args.word.now ∷ [])) c.fits.ensures c.if-fits.false)
