use Rattle.grammar_load.proofs.OneLoad.{OneSettling, load_one}
use Rattle.grammar_load.proofs.laws.one_load.Goals as goal

pub returns : goal.returns
returns c =
    let settling : OneSettling = record { one_table = c.one_settling.ensures.tables; one_fault = c.one_settling.ensures.faults; not_both = c.one_settling.ensures.not_both } in
    load_one c.closure_laws.ensures.one settling c.one_read.ensures
