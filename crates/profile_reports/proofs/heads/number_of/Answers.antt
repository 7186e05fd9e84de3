use Rattle.std.proofs.Common.{subst, arith}
use Rattle.std.specs.Str.Parse.{ParsesUnsigned}
use Rattle.profile_reports.proofs.Numbers.{read_err}
use Rattle.profile_reports.proofs.heads.number_of.Goals as goal

pub returns-in-Err : goal.returns-in-Err
returns-in-Err c = read_err c.args.word.now c.in-Err.field-0 (grind (arith, c.is_number.ensures, c.if-not-is_number.false)) (subst (λ r. ParsesUnsigned 32 10 c.args.word.now r) c.in-Err.is c.parse.ensures.value.0)
