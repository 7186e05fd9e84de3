use Rattle.std.proofs.Common.{◌+◌, ◌&&◌, ◌∙◌, sym, ap, drop, arith}
use Rattle.sieve.specs.Sketches.{sketches_meet}
use Rattle.sieve.proofs.Apart.{ended}
use Rattle.sieve.proofs.quick.all_pass.Goals as goal

pub pass_at-requires-clause-left : goal.pass_at-requires-clause-left
pass_at-requires-clause-left c = omega (arith, c.loop-k-test.true, c.min-lines.ensures, c.count-left.ensures, c.count-right.ensures)

pub pass_at-requires-clause-right : goal.pass_at-requires-clause-right
pass_at-requires-clause-right c = omega (arith, c.loop-k-test.true, c.min-lines.ensures, c.count-left.ensures, c.count-right.ensures)

pub returns-then-not-pass_at : goal.returns-then-not-pass_at
returns-then-not-pass_at c =
    sym (sym c.loop-k.invariant ∙ c.pass_at.ensures ∙ ap (λ x. x && sketches_meet c.args.types.now (drop (c.loop-k.k + 1) c.args.a.now) (drop (c.loop-k.k + 1) c.args.b.now)) c.if-not-pass_at.true)

pub loop-k-preserved : goal.loop-k-preserved
loop-k-preserved c =
    sym (c.pass_at.ensures ∙ ap (λ x. x && sketches_meet c.args.types.now (drop (c.loop-k.k + 1) c.args.a.now) (drop (c.loop-k.k + 1) c.args.b.now)) c.if-not-pass_at.false) ∙ c.loop-k.invariant

pub returns : goal.returns
returns c =
    sym (ended c.args.types.now c.args.a.now c.args.b.now c.loop-k.k (omega (arith, c.loop-k-test.false, c.min-lines.ensures, c.count-left.ensures, c.count-right.ensures))) ∙ c.loop-k.invariant
