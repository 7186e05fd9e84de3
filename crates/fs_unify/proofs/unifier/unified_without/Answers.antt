use Rattle.std.proofs.Common.{subst}
use Rattle.fs_unify.specs.Given.{Gathers}
use Rattle.fs_unify.specs.Placing.{source_in}
use Rattle.fs_unify.proofs.unifier.unified_without.Goals as goal

pub settle_without-requires-clause-sound : goal.settle_without-requires-clause-sound
settle_without-requires-clause-sound c =
    (subst (Gathers c.args.system.now (source_in c.args.parts.now) c.gather.new.nodes c.gather.new.tasks) c.if-gathered.true c.in_ok-gathered.ensures).1

pub settle_without-requires-clause-stands : goal.settle_without-requires-clause-stands
settle_without-requires-clause-stands c = (
  source_in c.args.parts.now,
  (subst (Gathers c.args.system.now (source_in c.args.parts.now) c.gather.new.nodes c.gather.new.tasks) c.if-gathered.true c.in_ok-gathered.ensures).0,
)

pub returns-then-gathered-clause-answer : goal.returns-then-gathered-clause-answer
returns-then-gathered-clause-answer c =
    let g = subst (Gathers c.args.system.now (source_in c.args.parts.now) c.gather.new.nodes c.gather.new.tasks) c.if-gathered.true c.in_ok-gathered.ensures in
    c.in_ok-graph.ensures.answer (source_in c.args.parts.now) g.0

pub returns-clause-answer : goal.returns-clause-answer
returns-clause-answer c =
    subst (Gathers c.args.system.now (source_in c.args.parts.now) c.gather.new.nodes c.gather.new.tasks) c.if-gathered.false c.in_ok-gathered.ensures
