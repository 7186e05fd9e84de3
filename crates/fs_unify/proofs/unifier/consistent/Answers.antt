use Rattle.std.proofs.Common.{subst}
use Rattle.fs_unify.specs.Given.{Gathers}
use Rattle.fs_unify.specs.Placing.{source_in}
use Rattle.fs_unify.proofs.GivenLemmas.{decided}
use Rattle.fs_unify.proofs.unifier.consistent.Goals as goal

pub close_bounded-requires-clause-sound : goal.close_bounded-requires-clause-sound
close_bounded-requires-clause-sound c =
    (subst (Gathers c.args.system.now (source_in c.args.parts.now) c.gather.new.nodes c.gather.new.tasks) c.if-gathered.true c.in_ok-gathered.ensures).1

pub close_bounded-requires-clause-stands : goal.close_bounded-requires-clause-stands
close_bounded-requires-clause-stands c = (
  source_in c.args.parts.now,
  (subst (Gathers c.args.system.now (source_in c.args.parts.now) c.gather.new.nodes c.gather.new.tasks) c.if-gathered.true c.in_ok-gathered.ensures).0,
)

pub returns-then-gathered : goal.returns-then-gathered
returns-then-gathered c =
    let g = subst (Gathers c.args.system.now (source_in c.args.parts.now) c.gather.new.nodes c.gather.new.tasks) c.if-gathered.true c.in_ok-gathered.ensures in
    decided c.args.system.now c.gather.new.nodes c.gather.new.tasks c.close_bounded.new.nodes (source_in c.args.parts.now) c.in_ok-consistent.consistent c.requires.order g.0
    c.in_ok-consistent.ensures

pub returns : goal.returns
returns c = (
  λ e. absurd cc,
  λ ok.
      absurd (subst (Gathers c.args.system.now (source_in c.args.parts.now) c.gather.new.nodes c.gather.new.tasks) c.if-gathered.false c.in_ok-gathered.ensures ok),
)
