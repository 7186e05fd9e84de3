use Rattle.std.proofs.Common.{List, map, ap, sym, subst}
use Rattle.type_hierarchy.specs.Decls.{Name, texts}
use Rattle.grammar_files.specs.declared.expand_fault.ExpandFault.TheVariants.{NoMemory}
use Rattle.grammar_files.specs.Placings.{placed_of}
use Rattle.constraint_expand.specs.Introducers.{numbers_of}
use Rattle.constraint_expand.specs.Systems.{settled_of, IsSystemOf}
use Rattle.constraint_expand.specs.Found.{IsIntroduced, IsEarlyFault}
use Rattle.constraint_expand.proofs.MissingLemmas.{at_exit}
use Rattle.constraint_expand.proofs.definitions.type_system.Goals as goal

pub system_with-requires-clause-introduced : goal.system_with-requires-clause-introduced
system_with-requires-clause-introduced c =
    subst (λ (l : List Name). IsIntroduced c.args.types (settled_of c.args.names.now) (map placed_of c.args.statements.now) l (numbers_of c.in_ok-feats.field-0.introducers.items))
    (ap texts (sym c.deref.ensures.value)) c.in_ok-feats.ensures.introduced

pub returns-in_err-feats-clause-fault : goal.returns-in_err-feats-clause-fault
returns-in_err-feats-clause-fault c =
    at_exit (IsEarlyFault c.args.types (settled_of c.args.names.now) (map placed_of c.args.statements.now)) c.from_residual.result c.in_err-feats.field-0.0
    c.from_residual.ensures.1 c.in_err-feats.ensures.fault

pub returns-in_err-system-clause-fault : goal.returns-in_err-system-clause-fault
returns-in_err-system-clause-fault c =
    at_exit (IsEarlyFault c.args.types (settled_of c.args.names.now) (map placed_of c.args.statements.now)) c.from_residual-in_err-system.result NoMemory
    c.from_residual-in_err-system.ensures.1 tt

pub returns-clause-system : goal.returns-clause-system
returns-clause-system c =
    subst (λ (l : List Name). IsSystemOf c.args.types (settled_of c.args.names.now) (map placed_of c.args.statements.now) l c.in_ok-system.system)
    (ap texts c.deref.ensures.value) c.in_ok-system.ensures.system
