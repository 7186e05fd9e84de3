use Rattle.std.proofs.Common.{◌+◌, ◌&&◌, ◌∙◌, sym, ap, drop}
use Rattle.sieve.specs.Sketches.{sketches_meet}
use Rattle.sieve.specs.Inner.{line_seen}
use Rattle.sieve.proofs.Apart.{step, line_in, in_code}
use Rattle.sieve.proofs.quick.pass_at.Goals as goal

pub pass-requires-clause-a_in : goal.pass-requires-clause-a_in
pass-requires-clause-a_in c = in_code c.args.types.now c.line-left.result.ty (line_in c.args.types.now c.args.a.now c.args.k (line_seen c.line-left.result) c.line-left.ensures c.requires.a_in)

pub pass-requires-clause-b_in : goal.pass-requires-clause-b_in
pass-requires-clause-b_in c = in_code c.args.types.now c.line-right.result.ty (line_in c.args.types.now c.args.b.now c.args.k (line_seen c.line-right.result) c.line-right.ensures c.requires.b_in)

pub returns : goal.returns
returns c =
    step c.args.types.now c.args.a.now c.args.b.now c.args.k (line_seen c.line-left.result) (line_seen c.line-right.result) c.line-left.ensures c.line-right.ensures
    ∙ ap (λ x. x && sketches_meet c.args.types.now (drop (c.args.k + 1) c.args.a.now) (drop (c.args.k + 1) c.args.b.now)) (sym c.pass.ensures)
