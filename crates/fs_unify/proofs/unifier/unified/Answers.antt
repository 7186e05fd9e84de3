use Rattle.std.proofs.Common.{subst}
use Rattle.fs_unify.specs.Given.{Gathers}
use Rattle.fs_unify.specs.Placing.{source_in}
use Rattle.fs_unify.proofs.GivenLemmas.{known_some}
use Rattle.fs_unify.proofs.unifier.unified.Goals as goal

pub settle-requires-clause-sound : goal.settle-requires-clause-sound
settle-requires-clause-sound c =
    (subst (Gathers c.args.system.now (source_in c.args.parts.now) c.gather.new.nodes c.gather.new.tasks) c.if-gathered.true c.in_ok-gathered.ensures).1

pub settle-requires-clause-stands : goal.settle-requires-clause-stands
settle-requires-clause-stands c = (
  source_in c.args.parts.now,
  (subst (Gathers c.args.system.now (source_in c.args.parts.now) c.gather.new.nodes c.gather.new.tasks) c.if-gathered.true c.in_ok-gathered.ensures).0,
)

pub returns-then-gathered-clause-answer : goal.returns-then-gathered-clause-answer
returns-then-gathered-clause-answer c =
    let g = subst (Gathers c.args.system.now (source_in c.args.parts.now) c.gather.new.nodes c.gather.new.tasks) c.if-gathered.true c.in_ok-gathered.ensures in
    c.in_ok-graph.ensures.answer (source_in c.args.parts.now) g.0

pub returns-then-gathered-clause-known : goal.returns-then-gathered-clause-known
returns-then-gathered-clause-known c =
    let g = subst (Gathers c.args.system.now (source_in c.args.parts.now) c.gather.new.nodes c.gather.new.tasks) c.if-gathered.true c.in_ok-gathered.ensures in
    known_some c.args.system.now (source_in c.args.parts.now) c.in_ok-graph.graph (c.in_ok-graph.ensures.answer (source_in c.args.parts.now) g.0) c.in_ok-graph.ensures.inside

pub returns-clause-answer : goal.returns-clause-answer
returns-clause-answer c =
    subst (Gathers c.args.system.now (source_in c.args.parts.now) c.gather.new.nodes c.gather.new.tasks) c.if-gathered.false c.in_ok-gathered.ensures
