use Rattle.body_facts.specs.WordTables.{table_of}
use Rattle.grammar_files.specs.Placings.{placed_of}
use Rattle.constraint_expand.proofs.StructureLemmas.{instance_by}
use Rattle.constraint_expand.proofs.structures.instance.Goals as goal

pub returns-in-Some-clause-instance : goal.returns-in-Some-clause-instance
returns-in-Some-clause-instance c =
    (instance_by c.args.system.now c.args.limit (table_of c.args.words.now) (placed_of c.args.placed.now) c.in-Some.structure _ c.in-Some.is c.in_ok-structure.ensures).0

pub returns-in-Some-clause-shape : goal.returns-in-Some-clause-shape
returns-in-Some-clause-shape c =
    (instance_by c.args.system.now c.args.limit (table_of c.args.words.now) (placed_of c.args.placed.now) c.in-Some.structure _ c.in-Some.is c.in_ok-structure.ensures).1
