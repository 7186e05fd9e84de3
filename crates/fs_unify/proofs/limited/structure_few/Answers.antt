use Rattle.std.proofs.Common.{inl, subst}
use Rattle.fs_unify.specs.Given.{Gathers, facts_source}
use Rattle.fs_graph.specs.Facts.{claims_of}
use Rattle.fs_unify.proofs.LimitLemmas.{known_few}
use Rattle.fs_unify.proofs.limited.structure_few.Goals as goal

pub settle_few-requires-clause-sound : goal.settle_few-requires-clause-sound
settle_few-requires-clause-sound c =
    (subst (Gathers c.args.system.now (facts_source (claims_of c.args.facts.now)) c.gather_facts.new.nodes c.gather_facts.new.tasks) c.if-gathered.true c.in_ok-gathered.ensures).1

pub settle_few-requires-clause-stands : goal.settle_few-requires-clause-stands
settle_few-requires-clause-stands c = (
  facts_source (claims_of c.args.facts.now),
  (subst (Gathers c.args.system.now (facts_source (claims_of c.args.facts.now)) c.gather_facts.new.nodes c.gather_facts.new.tasks) c.if-gathered.true c.in_ok-gathered.ensures).0,
)

pub returns-then-gathered-clause-answer : goal.returns-then-gathered-clause-answer
returns-then-gathered-clause-answer c =
    let g = subst (Gathers c.args.system.now (facts_source (claims_of c.args.facts.now)) c.gather_facts.new.nodes c.gather_facts.new.tasks) c.if-gathered.true c.in_ok-gathered.ensures in
    c.in_ok-graph.ensures.answer (facts_source (claims_of c.args.facts.now)) g.0

pub returns-then-gathered-clause-known : goal.returns-then-gathered-clause-known
returns-then-gathered-clause-known c =
    let g = subst (Gathers c.args.system.now (facts_source (claims_of c.args.facts.now)) c.gather_facts.new.nodes c.gather_facts.new.tasks) c.if-gathered.true c.in_ok-gathered.ensures in
    known_few c.args.system.now c.args.limit (facts_source (claims_of c.args.facts.now)) c.in_ok-graph.graph (c.in_ok-graph.ensures.answer (facts_source (claims_of c.args.facts.now)) g.0) c.in_ok-graph.ensures.inside

pub returns-clause-answer : goal.returns-clause-answer
returns-clause-answer c =
    inl (subst (Gathers c.args.system.now (facts_source (claims_of c.args.facts.now)) c.gather_facts.new.nodes c.gather_facts.new.tasks) c.if-gathered.false c.in_ok-gathered.ensures)
