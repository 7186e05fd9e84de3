use Rattle.std.proofs.Common.{slice_index_or, ap}
use Rattle.std.specs.Option.{option_map}
use Rattle.fs_closing.specs.Rules.{no_rule}
use Rattle.fs_closing.specs.NodeTable.{table_of}
use Rattle.fs_closing.specs.Work.{work_of}
use Rattle.fs_unify.proofs.CarryLemmas.{on_ok, carries_entry, entry_says}
use Rattle.fs_unify.proofs.entering.enter_rule.Goals as goal

pub enter_debt-requires-clause-debt : goal.enter_debt-requires-clause-debt
enter_debt-requires-clause-debt c =
    ((slice_index_or c.args.system.now.rules c.args.rule no_rule).ty, c.requires.debt c.in-Some.known.now (ap (option_map (λ x. x.now)) c.in-Some.is), c.requires.above)

pub returns-in-None-clause-carries : goal.returns-in-None-clause-carries
returns-in-None-clause-carries c =
    let g = c.args.system.now in
    let old = work_of g.rules c.args.tasks.now in
    let new = work_of g.rules c.push_entry.new.self in
    on_ok c.push_entry.result _ _
    (λ work. carries_entry g (table_of c.args.nodes.now) c.args.node c.args.rule c.requires.node c.requires.rule c.requires.above old new (work g.rules)) c.push_entry.ensures.work

pub returns-in-None-clause-says : goal.returns-in-None-clause-says
returns-in-None-clause-says c =
    let g = c.args.system.now in
    let old = work_of g.rules c.args.tasks.now in
    let new = work_of g.rules c.push_entry.new.self in
    on_ok c.push_entry.result _ _
    (λ work none d h. entry_says g (table_of c.args.nodes.now) c.args.node c.args.rule c.requires.node c.requires.rule c.requires.above old new (work g.rules) d h)
    c.push_entry.ensures.work
