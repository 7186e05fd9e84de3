use Rattle.std.proofs.Common.{slice_index_or, arith}
use Rattle.fs_closing.proofs.HasLemmas.{Has-at}
use Rattle.fs_unify.proofs.OwedRows.{above_in}
use Rattle.fs_unify.proofs.owed.has_many.Goals as goal

pub bounds-marks-rule : goal.bounds-marks-rule
bounds-marks-rule c =
    let list = c.rules_above-rule-items.result.now in
    let at = Has-at list c.loop-rule.rule-index 0 c.loop-rule-test.true in
    omega (arith, above_in c.args.system.now c.args.ty list c.rules_above-rule-items.ensures (slice_index_or list c.loop-rule.rule-index 0) at, c.requires.marks)

pub facts-count-requires : goal.facts-count-requires
facts-count-requires c =
    let list = c.rules_above-rule-items.result.now in
    above_in c.args.system.now c.args.ty list c.rules_above-rule-items.ensures (slice_index_or list c.loop-rule.rule-index 0) (Has-at list c.loop-rule.rule-index 0 c.loop-rule-test.true)
