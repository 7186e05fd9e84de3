use Rattle.std.proofs.Common.{◌≡◌, ◌∙◌, sym, map, string_bytes, Some, None, [], ◌∷◌}
use Rattle.command_line.specs.Words.{IsValue}
use Rattle.command_line.specs.Fronts.{values_by, value_in}
use Rattle.command_line.proofs.Steps.{name-taken, name-refused}
use Rattle.command_line.proofs.Ends.{not-so, only-value}
use Rattle.command_line.proofs.word_reading.after_name.Goals as goal

pub returns-then-fits : goal.returns-then-fits
returns-then-fits c = λ at. name-taken (map (λ w. string_bytes w) c.args.before.now) c.args.command c.args.filled c.args.word.now at (value_in c.in-Some.wanted) (sym c.in-Some.ensures) (c.fits.ensures.0 c.if-fits.true)

pub returns-else-fits : goal.returns-else-fits
returns-else-fits c = λ at. name-refused (map (λ w. string_bytes w) c.args.before.now) c.args.command c.args.filled c.args.word.now at c.requires.named (only-value (values_by c.args.command) c.args.filled (value_in c.in-Some.wanted) c.args.word.now (sym c.in-Some.ensures) (not-so c.fits.result (IsValue (value_in c.in-Some.wanted) (c.args.word.now ∷ [])) c.fits.ensures c.if-fits.false))

pub returns-in-None : goal.returns-in-None
returns-in-None c = λ at. name-refused (map (λ w. string_bytes w) c.args.before.now) c.args.command c.args.filled c.args.word.now at c.requires.named (λ v here is. (let bad : None ≡ Some v = c.in-None.ensures ∙ here in cc))
