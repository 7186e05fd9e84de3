use Rattle.std.proofs.Common.{◌∙◌, sym}
use Rattle.sieve.proofs.Apart.{none_unify}
use Rattle.sieve.proofs.quick.types_meet.Goals as goal

pub returns-clause-apart : goal.returns-clause-apart
returns-clause-apart c h = none_unify c.args.types.now c.args.a.now c.args.b.now (sym c.all_pass.ensures ∙ h)
