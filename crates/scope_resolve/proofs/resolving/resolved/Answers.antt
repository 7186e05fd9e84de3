use Rattle.mrs_model.specs.Views.{meaning_of}
use Rattle.scope_resolve.proofs.Resolves.{over_of, all_in_all}
use Rattle.scope_resolve.proofs.resolving.resolved.Goals as goal

pub returns-in-Ok-Some-clause-ok : goal.returns-in-Ok-Some-clause-ok
returns-in-Ok-Some-clause-ok c =
    let a = rw c.in-Ok-Some.field-0-is at c.in-Ok-Some.ensures in
    all_in_all (meaning_of c.args.mrs.now) c.args.max _ c.requires.qeqs a.0 a.1

pub returns-in-Ok-None-clause-fault : goal.returns-in-Ok-None-clause-fault
returns-in-Ok-None-clause-fault c =
    let a = rw c.in-Ok-None.field-0-is at c.in-Ok-None.ensures in
    over_of (meaning_of c.args.mrs.now) c.args.max c.requires.qeqs a
