use Rattle.std.proofs.Common.{◌∙◌, sym, arith}
use Rattle.std.proofs.lemmas.Slice.Eq.{bytes_eq-Decides}
use Rattle.mrs_transfer.proofs.Binding.{has_role, no_role}
use Rattle.mrs_transfer.proofs.fitting.filler_at.Goals as goal

pub returns-then-eq-clause-some : goal.returns-then-eq-clause-some
returns-then-eq-clause-some c =
    has_role c.args.roles.now c.loop-role.role-index c.args.name.now c.role-item.result c.loop-role-test.true c.role-item.is
    (sym c.as_str.ensures.value ∙ (bytes_eq-Decides c.as_str.result.now c.args.name.now).0 (sym c.eq.ensures ∙ c.if-eq.true))

pub returns-clause-none : goal.returns-clause-none
returns-clause-none c = let end = c.loop-role-test.false in no_role c.args.roles.now c.args.name.now (λ k d l e. c.loop-role.invariant k d (omega (arith, end, l)) e)
