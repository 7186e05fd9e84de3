use Rattle.packed_items.specs.Answers.{limits_in}
use Rattle.grammar_load.specs.Views.{grammar_of}
use Rattle.self_tests.proofs.WorkloadFaults.{fault-not-come, told-report}
use Rattle.self_tests.proofs.testing.report_of.Goals as goal

pub returns-in-Err : goal.returns-in-Err
returns-in-Err g c = λ h.
    let test = c.args.test.now in
    fault-not-come test.number test.size (limits_in test.limits) test.limits.lexical h c.in-Err.fault c.in-Err.ensures.fault

pub returns-in-Ok-report_with : goal.returns-in-Ok-report_with
returns-in-Ok-report_with g c = λ h lines.
    let test = c.args.test.now in
    let made = c.in-Ok-report_with.ensures in
    told-report test.number test.size (limits_in test.limits) test.limits.lexical h lines made.0 (grammar_of c.in-Ok-load_workload.grammar, c.in-Ok-load_workload.ensures.grammar, made.1) c.in-Ok-report_with.report made.2
