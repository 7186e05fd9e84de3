use Rattle.std.proofs.Common.{None, option_map, subst}
use Rattle.fs_graph.specs.Facts.{claims_of}
use Rattle.fs_graph.specs.GraphMap.{reader_of}
use Rattle.fs_unify.specs.Rules.{system_of}
use Rattle.fs_unify.specs.Given.{facts_source}
use Rattle.fs_unify.specs.Limits.{IsUnifiedWithin}
use Rattle.fault_details.proofs.Systems.{lack-none}
use Rattle.fault_details.proofs.structures.lacks.Goals as goal

pub returns-in-Ok-None-clause-none : goal.returns-in-Ok-None-clause-none
returns-in-Ok-None-clause-none c =
    subst (λ o. IsUnifiedWithin (system_of c.args.typed.now.system) c.args.limit (facts_source (claims_of c.args.facts.now)) (option_map reader_of o)) c.in-Ok-None.field-0-is c.in-Ok-None.ensures.answer

pub returns-in-Ok-Some-clause-read : goal.returns-in-Ok-Some-clause-read
returns-in-Ok-Some-clause-read c = λ unread lacks.
    lack-none c.args.typed.now.system c.args.limit (claims_of c.args.facts.now) _ _ c.in-Ok-Some.field-0-is c.in-Ok-Some.ensures.answer lacks
