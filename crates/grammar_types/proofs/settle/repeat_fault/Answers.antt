use Rattle.std.proofs.Common.{◌∙◌}
use Rattle.grammar_files.specs.Placings.{placed_of}
use Rattle.grammar_files.specs.WalkViews.{walked_of}
use Rattle.grammar_types.proofs.SettleFaults.{repeat_is}
use Rattle.grammar_types.proofs.SettleRepeats.{at_placed}
use Rattle.grammar_types.proofs.settle.repeat_fault.Goals as goal

pub returns-in-Ok : goal.returns-in-Ok
returns-in-Ok c =
    repeat_is (walked_of c.args.walked.now) (placed_of c.index-placed.result.now) c.args.place c.in-Ok.name c.fault_of.result
    (at_placed c.args.walked.now.statements.items c.args.place c.index-placed.result.now c.requires.within c.index-placed.ensures) c.requires.first c.in-Ok.ensures c.fault_of.ensures
