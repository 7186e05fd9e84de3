use Rattle.grammar_files.specs.WalkViews.{walked_of}
use Rattle.grammar_types.specs.Typings.{IsTypesFault}
use Rattle.fault_details.proofs.Reading.{no-fault}
use Rattle.fault_details.proofs.structures.types_of.Goals as goal

pub returns-in-Err-clause-read : goal.returns-in-Err-clause-read
returns-in-Err-clause-read c = λ unread types typed.
    let w = walked_of c.args.walked.now in
    no-fault (IsTypesFault w) c.in-Err.fault (λ f x. c.one_settling.ensures.not_both w types f typed x) (c.lack_in.ensures cc) c.in-Err.ensures.fault
