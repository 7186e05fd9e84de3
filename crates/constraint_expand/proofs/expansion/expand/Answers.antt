use Rattle.std.proofs.Common.{◌∙◌, List, map, ap, sym, subst}
use Rattle.type_hierarchy.specs.Decls.{Name, texts}
use Rattle.constraint_expand.specs.declared.books.Book.{Book}
use Rattle.grammar_files.specs.declared.expand_fault.ExpandFault.TheVariants.{NoMemory}
use Rattle.grammar_files.specs.Placings.{placed_of}
use Rattle.constraint_expand.specs.Introducers.{numbers_of}
use Rattle.fs_model.specs.Claims.{IsBare}
use Rattle.fs_unify.specs.Rules.{Grammar, IsGrammar, system_of}
use Rattle.constraint_expand.specs.Systems.{settled_of, words_of, IsSystemOf}
use Rattle.constraint_expand.specs.Books.{AreConstraints}
use Rattle.constraint_expand.specs.Shaped.{HasNoShape, IsFaultyAmongInstances}
use Rattle.constraint_expand.specs.Faults.{HasNoStructure, IsFaultOf}
use Rattle.constraint_expand.specs.Statements.{defines_instance, HoldsOfNone, IsNowhere}
use Rattle.constraint_expand.specs.Found.{IsIntroduced}
use Rattle.constraint_expand.proofs.FirstLemmas.{placed_within}
use Rattle.constraint_expand.proofs.MissingLemmas.{at_exit}
use Rattle.constraint_expand.proofs.FaultLemmas.{early_fault}
use Rattle.constraint_expand.proofs.ExpandLemmas.{facts_defined}
use Rattle.constraint_expand.proofs.BookLemmas.{all_covered, all_in_range, fault_of_types, fault_of_instances, all_shaped, book_is}
use Rattle.constraint_expand.proofs.expansion.expand.Goals as goal

pub system_with-requires-clause-introduced : goal.system_with-requires-clause-introduced
system_with-requires-clause-introduced c =
    subst (λ (l : List Name). IsIntroduced c.args.types (settled_of c.args.names.now) (map placed_of c.args.statements.now) l (numbers_of c.in_ok-feats.field-0.introducers.items))
    (ap texts (sym c.deref.ensures.value)) c.in_ok-feats.ensures.introduced

pub constraints_of-requires-clause-facts : goal.constraints_of-requires-clause-facts
constraints_of-requires-clause-facts c =
    let types = c.args.types in
    let s = settled_of c.args.names.now in
    let ps = map placed_of c.args.statements.now in
    let feats = texts c.deref.result.now in
    let g = c.in_ok-system.system in
    let sys = c.in_ok-system.ensures.system in
    facts_defined types s ps feats g c.requires sys

pub constraints_of-requires-clause-covered : goal.constraints_of-requires-clause-covered
constraints_of-requires-clause-covered c =
    let types = c.args.types in
    let s = settled_of c.args.names.now in
    let ps = map placed_of c.args.statements.now in
    let feats = texts c.deref.result.now in
    let g = c.in_ok-system.system in
    let sys = c.in_ok-system.ensures.system in
    all_covered types s ps feats g c.requires sys

pub instances_with-requires-clause-within : goal.instances_with-requires-clause-within
instances_with-requires-clause-within c = λ k lt d.
    let types = c.args.types in
    let s = settled_of c.args.names.now in
    let ps = map placed_of c.args.statements.now in
    let feats = texts c.deref.result.now in
    let g = c.in_ok-system.system in
    let sys = c.in_ok-system.ensures.system in
    let again = texts c.deref-2.result.now in
    let sys' = subst (λ (l : List Name). IsSystemOf types s ps l g) (ap texts (c.deref.ensures.value ∙ sym c.deref-2.ensures.value)) sys in
    let known = subst (IsSystemOf types s ps again) (sym c.in_ok-constraints.ensures.same) sys' in
    all_in_range types s ps again c.constraints_of.new.system c.requires known c.in_ok-system.ensures.counts k (placed_within c.args.statements.now k lt) d

pub instances_with-requires-clause-bare : goal.instances_with-requires-clause-bare
instances_with-requires-clause-bare c = subst (λ (g : Grammar). IsBare (system_of g)) (sym c.in_ok-constraints.ensures.same) c.in_ok-system.ensures.bare

pub returns-in_err-feats-clause-fault : goal.returns-in_err-feats-clause-fault
returns-in_err-feats-clause-fault c =
    let e = c.in_err-feats.field-0.0 in
    at_exit (IsFaultOf c.args.types (settled_of c.args.names.now) (map placed_of c.args.statements.now)) c.from_residual.result e c.from_residual.ensures.1
    (early_fault c.args.types (settled_of c.args.names.now) (map placed_of c.args.statements.now) e c.in_err-feats.ensures.fault)

pub returns-in_err-constraints-clause-fault : goal.returns-in_err-constraints-clause-fault
returns-in_err-constraints-clause-fault c =
    let types = c.args.types in
    let s = settled_of c.args.names.now in
    let ps = map placed_of c.args.statements.now in
    let feats = texts c.deref.result.now in
    let g = c.in_ok-system.system in
    let sys = c.in_ok-system.ensures.system in
    let e = c.in_err-constraints.field-0.0 in
    at_exit (IsFaultOf types s ps) c.from_residual-in_err-constraints.result e c.from_residual-in_err-constraints.ensures.1
    (fault_of_types types s ps feats g c.requires sys e c.in_ok-feats.ensures.introduced.known c.in_err-constraints.ensures.fault)

pub returns-in_err-instances-clause-fault : goal.returns-in_err-instances-clause-fault
returns-in_err-instances-clause-fault c =
    let types = c.args.types in
    let s = settled_of c.args.names.now in
    let ps = map placed_of c.args.statements.now in
    let feats = texts c.deref.result.now in
    let g = c.in_ok-system.system in
    let sys = c.in_ok-system.ensures.system in
    let again = texts c.deref-2.result.now in
    let sys' = subst (λ (l : List Name). IsSystemOf types s ps l g) (ap texts (c.deref.ensures.value ∙ sym c.deref-2.ensures.value)) sys in
    let e = c.in_err-instances.field-0.0 in
    let fault = subst (λ (h : Grammar). IsFaultyAmongInstances h s.node_limit (words_of h.types s.lists again) ps e) c.in_ok-constraints.ensures.same c.in_err-instances.ensures.fault in
    at_exit (IsFaultOf types s ps) c.from_residual-in_err-instances.result e c.from_residual-in_err-instances.ensures.1
    (fault_of_instances types s ps again g c.requires sys' e c.in_ok-feats.ensures.introduced.known c.in_ok-constraints.ensures.all fault)

pub returns-in_err-names-clause-fault : goal.returns-in_err-names-clause-fault
returns-in_err-names-clause-fault c =
    at_exit (IsFaultOf c.args.types (settled_of c.args.names.now) (map placed_of c.args.statements.now)) c.from_residual-in_err-names.result NoMemory
    c.from_residual-in_err-names.ensures.1 tt

pub returns-clause-book : goal.returns-clause-book
returns-clause-book c =
    let types = c.args.types in
    let s = settled_of c.args.names.now in
    let ps = map placed_of c.args.statements.now in
    let feats = texts c.deref.result.now in
    let back = sym c.in_ok-constraints.ensures.same in
    let b : Book = record {
      system = c.constraints_of.new.system;
      constraints = c.in_ok-constraints.constraints;
      feats = c.in_ok-feats.field-0.feats;
      instances = c.in_ok-instances.instances;
      names = c.in_ok-names.names;
    } in
    let g = c.in_ok-system.system in
    let again = texts c.deref-2.result.now in
    let shapes = subst (λ (h : Grammar). HoldsOfNone defines_instance ps (HasNoShape h s.node_limit (words_of h.types s.lists again))) c.in_ok-constraints.ensures.same c.in_ok-instances.ensures.all in
    let has = all_shaped types s ps feats g c.requires c.in_ok-system.ensures.system c.in_ok-constraints.ensures.all
    (subst (λ (l : List Name). HoldsOfNone defines_instance ps (HasNoShape g s.node_limit (words_of g.types s.lists l))) (ap texts (c.deref-2.ensures.value ∙ sym c.deref.ensures.value)) shapes) in
    book_is c.args.types (settled_of c.args.names.now) (map placed_of c.args.statements.now) b (texts c.deref.result.now) (texts c.deref-2.result.now)
    (texts c.deref-3.result.now) c.types-2.result.now (ap texts c.deref.ensures.value) (ap texts c.deref-2.ensures.value) (ap texts c.deref-3.ensures.value) c.types-2.ensures
    c.in_ok-feats.ensures.introduced.known (subst (IsSystemOf types s ps feats) back c.in_ok-system.ensures.system) (subst IsGrammar back c.in_ok-system.ensures.in_range)
    (subst (λ (g : Grammar). IsBare (system_of g)) back c.in_ok-system.ensures.bare)
    (subst (λ (g : Grammar). IsNowhere ps (HasNoStructure g s feats)) back has)
    (subst (λ (g : Grammar). AreConstraints g c.in_ok-constraints.constraints.items) back c.in_ok-constraints.ensures.constraints)
    c.in_ok-instances.ensures.instances c.in_ok-names.ensures
