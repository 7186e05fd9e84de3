use Rattle.std.proofs.Common.{subst}
use Rattle.glb_completion.specs.Completion.{IsCompleteFault}
use Rattle.grammar_files.specs.WalkViews.{walked_of}
use Rattle.grammar_types.proofs.SettleFaults.{too_many_is}
use Rattle.grammar_types.proofs.settle.completed.Goals as goal

pub returns-in-Err-TooManyTypes-clause-fault : goal.returns-in-Err-TooManyTypes-clause-fault
returns-in-Err-TooManyTypes-clause-fault c =
    too_many_is (walked_of c.args.walked.now) c.args.hierarchy c.file_name.result.now c.found.result c.requires
    (subst (IsCompleteFault c.args.hierarchy) c.in-Err-TooManyTypes.field-0-is c.in-Err-TooManyTypes.ensures.fault) c.file_name.ensures c.found.ensures
