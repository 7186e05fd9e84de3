use Rattle.std.proofs.Common.{inr, sym, subst}
use Rattle.fs_graph.specs.GraphMap.{reader_of}
use Rattle.constraint_expand.specs.Systems.{constraint_claims}
use Rattle.constraint_expand.specs.Books.{IsConstraintOf}
use Rattle.constraint_expand.specs.Shaped.{IsAnswerFor}
use Rattle.constraint_expand.proofs.StructureLemmas.{shaped_is}
use Rattle.constraint_expand.proofs.structures.known_constraint.Goals as goal

pub known-requires-clause-is : goal.known-requires-clause-is
known-requires-clause-is c =
    let answer = subst (IsAnswerFor c.args.system.now c.args.limit (constraint_claims c.args.ty.0)) c.in-Some.is c.in_ok-graph.ensures in
    record { graph_in = answer.answer.graph_in; structure = answer.unified.0.1 }

pub returns-in_ok-known-in-Some-clause-constraint : goal.returns-in_ok-known-in-Some-clause-constraint
returns-in_ok-known-in-Some-clause-constraint c =
    let g = c.args.system.now in
    let t = c.args.ty.0 in
    let answer = subst (IsAnswerFor g c.args.limit (constraint_claims t)) c.in-Some.is c.in_ok-graph.ensures in
    subst (IsConstraintOf g t) (sym c.in_ok-known-in-Some.ensures.graph) (record { structure = answer.unified.0; answer = answer.answer })

pub returns-in_ok-known-in-Some-clause-some : goal.returns-in_ok-known-in-Some-clause-some
returns-in_ok-known-in-Some-clause-some c =
    let answer = subst (IsAnswerFor c.args.system.now c.args.limit (constraint_claims c.args.ty.0)) c.in-Some.is c.in_ok-graph.ensures in
    shaped_is c.args.system.now c.args.limit (constraint_claims c.args.ty.0) (reader_of c.in-Some.graph) answer.unified

pub type_fault-requires : goal.type_fault-requires
type_fault-requires c =
    let answer = subst (IsAnswerFor c.args.system.now c.args.limit (constraint_claims c.args.ty.0)) c.in-None.is c.in_ok-graph.ensures in
    c.requires.defined answer.unified

pub returns-in_ok-type_fault-in-None-clause-fault : goal.returns-in_ok-type_fault-in-None-clause-fault
returns-in_ok-type_fault-in-None-clause-fault c =
    let answer = subst (IsAnswerFor c.args.system.now c.args.limit (constraint_claims c.args.ty.0)) c.in-None.is c.in_ok-graph.ensures in
    inr (answer.unified, c.in_ok-type_fault-in-None.ensures)
