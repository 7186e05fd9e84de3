use Rattle.std.proofs.Common.{subst}
use Rattle.fs_unify.specs.Given.{Gathers, facts_source}
use Rattle.fs_graph.specs.Facts.{claims_of}
use Rattle.fs_unify.proofs.GivenLemmas.{known_some}
use Rattle.fs_unify.proofs.structure.structure.Goals as goal

pub settle-requires-clause-sound : goal.settle-requires-clause-sound
settle-requires-clause-sound c =
    (subst (Gathers c.args.system.now (facts_source (claims_of c.args.facts.now)) c.gather_facts.new.nodes c.gather_facts.new.tasks) c.if-gathered.true c.in_ok-gathered.ensures).1

pub settle-requires-clause-stands : goal.settle-requires-clause-stands
settle-requires-clause-stands c = (
  facts_source (claims_of c.args.facts.now),
  (subst (Gathers c.args.system.now (facts_source (claims_of c.args.facts.now)) c.gather_facts.new.nodes c.gather_facts.new.tasks) c.if-gathered.true c.in_ok-gathered.ensures).0,
)

pub returns-then-gathered-clause-answer : goal.returns-then-gathered-clause-answer
returns-then-gathered-clause-answer c =
    let g = subst (Gathers c.args.system.now (facts_source (claims_of c.args.facts.now)) c.gather_facts.new.nodes c.gather_facts.new.tasks) c.if-gathered.true c.in_ok-gathered.ensures in
    c.in_ok-graph.ensures.answer (facts_source (claims_of c.args.facts.now)) g.0

pub returns-then-gathered-clause-known : goal.returns-then-gathered-clause-known
returns-then-gathered-clause-known c =
    let g = subst (Gathers c.args.system.now (facts_source (claims_of c.args.facts.now)) c.gather_facts.new.nodes c.gather_facts.new.tasks) c.if-gathered.true c.in_ok-gathered.ensures in
    known_some c.args.system.now (facts_source (claims_of c.args.facts.now)) c.in_ok-graph.graph (c.in_ok-graph.ensures.answer (facts_source (claims_of c.args.facts.now)) g.0) c.in_ok-graph.ensures.inside

pub returns-clause-answer : goal.returns-clause-answer
returns-clause-answer c =
    subst (Gathers c.args.system.now (facts_source (claims_of c.args.facts.now)) c.gather_facts.new.nodes c.gather_facts.new.tasks) c.if-gathered.false c.in_ok-gathered.ensures
