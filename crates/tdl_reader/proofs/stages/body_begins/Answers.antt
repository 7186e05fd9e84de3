use Rattle.std.proofs.Common.{ap, map}
use Rattle.std.proofs.lemmas.Result.{err_from_is_err_and}
use Rattle.tdl_reader.specs.Views.{term_of}
use Rattle.tdl_reader.specs.States.{stack_of}
use Rattle.tdl_reader.proofs.StageLemmas.{body_begins_found, body_begins_fault}
use Rattle.tdl_reader.proofs.stages.body_begins.Goals as goal

pub returns-in_err-point-clause-fault : goal.returns-in_err-point-clause-fault
returns-in_err-point-clause-fault c =
    let p = err_from_is_err_and c.from_residual.result c.from_residual.ensures.1 in
    rw (p.1, p.2) (λ done. body_begins_fault done _ _ _ _ _ _ (ap (map term_of) c.new.ensures.items) c.in_err-point.ensures.fault)

pub returns-clause-found : goal.returns-clause-found
returns-clause-found c = λ done. body_begins_found done _ _ _ _ _ _ (ap (map term_of) c.new.ensures.items) (ap stack_of c.new-frames.ensures.items) c.in_ok-point.ensures.found
