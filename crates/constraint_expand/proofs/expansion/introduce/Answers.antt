use Rattle.std.proofs.Common.{◌≤◌, List, map, ap, sym, subst, arith}
use Rattle.std.specs.List.{AllZip}
use Rattle.std.specs.List.Sorted.{IsPermutation}
use Rattle.type_hierarchy.specs.Decls.{Name, texts}
use Rattle.type_hierarchy.specs.Table.{count_of, completed_count}
use Rattle.grammar_files.specs.Placings.{placed_of}
use Rattle.constraint_expand.specs.Introducers.{numbers_of, IsIntroducer}
use Rattle.constraint_expand.specs.Systems.{settled_of}
use Rattle.constraint_expand.specs.Found.{numbers_noted, IsEarlyFault}
use Rattle.constraint_expand.proofs.MissingLemmas.{at_exit}
use Rattle.constraint_expand.proofs.FaultLemmas.{fault_unknown, fault_unwritten, keys_noted, keys_defined, keys_fault, feats_noted, feats_introduced, introduced_is}
use Rattle.constraint_expand.proofs.expansion.introduce.Goals as goal

pub check_introducers-requires-clause-noted : goal.check_introducers-requires-clause-noted
check_introducers-requires-clause-noted c =
    let types = c.args.types.now in
    let le : completed_count types ≤ count_of types = omega arith in
    keys_noted types (settled_of c.args.names.now) (map placed_of c.args.statements.now) c.in_ok-writers.writers.entries (texts c.in_ok-features.features.keys) c.requires le
    c.in_ok-check_names.ensures.known c.in_ok-check_written.ensures.written c.in_ok-writers.ensures c.in_ok-features.ensures

pub check_introducers-requires-clause-defined : goal.check_introducers-requires-clause-defined
check_introducers-requires-clause-defined c =
    let types = c.args.types.now in
    let le : completed_count types ≤ count_of types = omega arith in
    keys_defined types (settled_of c.args.names.now) (map placed_of c.args.statements.now) c.in_ok-writers.writers.entries (texts c.in_ok-features.features.keys) c.requires le
    c.in_ok-check_names.ensures.known c.in_ok-check_written.ensures.written c.in_ok-writers.ensures c.in_ok-features.ensures

pub introducers_of-requires-clause-noted : goal.introducers_of-requires-clause-noted
introducers_of-requires-clause-noted c =
    let types = c.args.types.now in
    let le : completed_count types ≤ count_of types = omega arith in
    feats_noted types (settled_of c.args.names.now) (map placed_of c.args.statements.now) c.in_ok-writers.writers.entries (texts c.in_ok-features.features.keys) c.requires le
    c.in_ok-check_names.ensures.known c.in_ok-check_written.ensures.written c.in_ok-writers.ensures c.in_ok-features.ensures (texts c.deref.result.now)
    (subst (IsPermutation (texts c.in_ok-features.features.keys)) (ap texts (sym c.deref.ensures.value)) c.in_ok-feats.ensures.moved)

pub introducers_of-requires-clause-introduced : goal.introducers_of-requires-clause-introduced
introducers_of-requires-clause-introduced c =
    let types = c.args.types.now in
    let le : completed_count types ≤ count_of types = omega arith in
    feats_introduced types (settled_of c.args.names.now) (map placed_of c.args.statements.now) c.in_ok-writers.writers.entries (texts c.in_ok-features.features.keys) c.requires le
    c.in_ok-check_names.ensures.known c.in_ok-check_written.ensures.written c.in_ok-writers.ensures c.in_ok-features.ensures (texts c.deref.result.now)
    (subst (IsPermutation (texts c.in_ok-features.features.keys)) (ap texts (sym c.deref.ensures.value)) c.in_ok-feats.ensures.moved)
    c.in_ok-check_introducers.ensures.introduced

pub returns-in_err-check_names-clause-fault : goal.returns-in_err-check_names-clause-fault
returns-in_err-check_names-clause-fault c =
    let types = c.args.types.now in
    let s = settled_of c.args.names.now in
    let ps = map placed_of c.args.statements.now in
    let e = c.in_err-check_names.field-0.0 in
    at_exit (IsEarlyFault types s ps) c.from_residual.result e c.from_residual.ensures.1 (fault_unknown types s ps e c.in_err-check_names.ensures.fault)

pub returns-in_err-check_written-clause-fault : goal.returns-in_err-check_written-clause-fault
returns-in_err-check_written-clause-fault c =
    let types = c.args.types.now in
    let s = settled_of c.args.names.now in
    let ps = map placed_of c.args.statements.now in
    let e = c.in_err-check_written.field-0.0 in
    at_exit (IsEarlyFault types s ps) c.from_residual-in_err-check_written.result e c.from_residual-in_err-check_written.ensures.1
    (fault_unwritten types s ps e c.in_ok-check_names.ensures.known c.in_err-check_written.ensures.fault)

pub returns-in_err-check_introducers-clause-fault : goal.returns-in_err-check_introducers-clause-fault
returns-in_err-check_introducers-clause-fault c =
    let types = c.args.types.now in
    let s = settled_of c.args.names.now in
    let ps = map placed_of c.args.statements.now in
    let le : completed_count types ≤ count_of types = omega arith in
    let e = c.in_err-check_introducers.field-0.0 in
    at_exit (IsEarlyFault types s ps) c.from_residual-in_err-check_introducers.result e c.from_residual-in_err-check_introducers.ensures.1
    (keys_fault types s ps c.in_ok-writers.writers.entries (texts c.in_ok-features.features.keys) c.requires le c.in_ok-check_names.ensures.known
    c.in_ok-check_written.ensures.written c.in_ok-writers.ensures c.in_ok-features.ensures e c.in_err-check_introducers.ensures.fault)

pub returns-clause-introduced : goal.returns-clause-introduced
returns-clause-introduced c =
    let types = c.args.types.now in
    let le : completed_count types ≤ count_of types = omega arith in
    introduced_is types (settled_of c.args.names.now) (map placed_of c.args.statements.now) c.in_ok-writers.writers.entries (texts c.in_ok-features.features.keys) c.requires le
    c.in_ok-check_names.ensures.known c.in_ok-check_written.ensures.written c.in_ok-writers.ensures c.in_ok-features.ensures (texts c.in_ok-feats.feats.items)
    (numbers_of c.in_ok-introducers.introducers.items) c.in_ok-feats.ensures.moved c.in_ok-feats.ensures.sorted
    (subst (λ (l : List Name). AllZip (λ f t. IsIntroducer types (numbers_noted c.in_ok-writers.writers.entries f) t) l (numbers_of c.in_ok-introducers.introducers.items))
    (ap texts c.deref.ensures.value) c.in_ok-introducers.ensures)
