use Rattle.fault_details.proofs.structures.named_line.Goals as goal

pub returns-in-Err-clause-read : goal.returns-in-Err-clause-read
returns-in-Err-clause-read c = λ unread types typed lacks. c.in-Err.ensures.read (cc) types typed (record { place = c.args.k; lacks = lacks })
