use Rattle.std.proofs.Common.{◌≡◌, ◌<◌, ◌⊎◌, inl, inr, ◌∙◌, map, refl, ap, sym, subst, arith}
use Rattle.type_hierarchy.specs.Table.{completed_count, count_of}
use Rattle.fs_model.specs.Claims.{IsBare}
use Rattle.fs_unify.specs.Rules.{Grammar, system_of}
use Rattle.grammar_files.specs.Placings.{placed_of}
use Rattle.constraint_expand.specs.Conditions.{IsDefined}
use Rattle.constraint_expand.specs.Books.{IsConstraintOf}
use Rattle.constraint_expand.specs.Shaped.{HasNoConstraint, IsFaultyType, IsFaultyAmongTypes}
use Rattle.constraint_expand.proofs.CoveredLemmas.{first_is_defined}
use Rattle.constraint_expand.proofs.StructureLemmas.{AreConstraintsTo, constraints_none, constraints_more, constraints_all, faulty_first}
use Rattle.constraint_expand.proofs.MissingLemmas.{at_exit}
use Rattle.grammar_files.specs.declared.expand_fault.ExpandFault.TheVariants.{NoMemory}
use Rattle.constraint_expand.proofs.structures.constraints_of.Goals as goal

pub known_constraint-requires-clause-bare : goal.known_constraint-requires-clause-bare
known_constraint-requires-clause-bare c = subst (λ (g : Grammar). IsBare (system_of g)) (sym c.loop-t.invariant.same) c.requires.bare

pub known_constraint-requires-clause-within : goal.known_constraint-requires-clause-within
known_constraint-requires-clause-within c =
    let within : c.loop-t.t < count_of c.args.system.now.types = omega (arith, c.loop-t-test.true, c.completed_count-completed.ensures.within) in
    subst (λ (g : Grammar). c.loop-t.t < count_of g.types) (sym c.loop-t.invariant.same) within

pub known_constraint-requires-clause-defined : goal.known_constraint-requires-clause-defined
known_constraint-requires-clause-defined c =
    let g = c.args.system.now in
    let t = c.loop-t.t in
    let ps = map placed_of c.args.statements.now in
    let lt : c.loop-t.t < completed_count c.args.system.now.types = omega (arith, c.loop-t-test.true, c.completed_count-completed.ensures.count) in
    subst (λ (h : Grammar). HasNoConstraint h c.args.limit t → IsDefined h.types ps t) (sym c.loop-t.invariant.same)
    (λ none. first_is_defined g c.args.limit ps t c.closure_laws.ensures.grows c.closure_laws.ensures.falls c.completed_count-completed.ensures.laws c.requires.facts (c.requires.covered t lt) none c.loop-t.invariant.so_far.none)

pub loop-t-init : goal.loop-t-init
loop-t-init c = record {
  same = refl;
  so_far = subst (AreConstraintsTo c.args.system.now c.args.limit 0) (sym c.new-graphs.ensures.items) (constraints_none c.args.system.now c.args.limit);
}

pub loop-t-preserved : goal.loop-t-preserved
loop-t-preserved c =
    let g = c.args.system.now in
    let t = c.loop-t.t in
    record {
      same = c.in_ok-graph.ensures.same ∙ c.loop-t.invariant.same;
      so_far = constraints_more g c.args.limit t c.loop-t.graphs.items c.push.new.self.items c.in_ok-graph.graph c.in_ok-push.ensures.items c.loop-t.invariant.so_far
          (subst (λ (h : Grammar). IsConstraintOf h t c.in_ok-graph.graph) c.loop-t.invariant.same c.in_ok-graph.ensures.constraint)
          (subst (λ (h : Grammar). HasNoConstraint h c.args.limit t → ⊥) c.loop-t.invariant.same c.in_ok-graph.ensures.some);
    }

pub returns-clause-constraints : goal.returns-clause-constraints
returns-clause-constraints c =
    let past : c.loop-t.t ≡ completed_count c.args.system.now.types = omega (arith, c.loop-t-test.false, c.completed_count-completed.ensures.count) in
    constraints_all c.args.system.now c.args.limit c.loop-t.t c.loop-t.graphs.items past c.loop-t.invariant.so_far

pub returns-clause-all : goal.returns-clause-all
returns-clause-all c = λ u lt.
    let past : c.loop-t.t ≡ completed_count c.args.system.now.types = omega (arith, c.loop-t-test.false, c.completed_count-completed.ensures.count) in
    c.loop-t.invariant.so_far.none u (omega (arith, lt, past))

pub returns-clause-same : goal.returns-clause-same
returns-clause-same c = c.loop-t.invariant.same

pub returns-in_err-graph-clause-fault : goal.returns-in_err-graph-clause-fault
returns-in_err-graph-clause-fault c =
    let ps = map placed_of c.args.statements.now in
    let e = c.in_err-graph.field-0.0 in
    let found = subst (λ (h : Grammar). (e ≡ NoMemory) ⊎ (HasNoConstraint h c.args.limit c.loop-t.t × IsFaultyType h.types ps c.loop-t.t e)) c.loop-t.invariant.same c.in_err-graph.ensures.fault in
    at_exit (IsFaultyAmongTypes c.args.system.now c.args.limit ps) c.from_residual.result e c.from_residual.ensures.1
    (faulty_first c.args.system.now c.args.limit ps c.loop-t.t e found c.loop-t.invariant.so_far.none)
