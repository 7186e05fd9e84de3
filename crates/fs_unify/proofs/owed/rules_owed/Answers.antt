use Rattle.std.proofs.Common.{ℕ, filter, slice_index_or, false, sym, ◌∙◌, ap, subst, arith}
use Rattle.std.specs.List.{list_any}
use Rattle.std.proofs.lemmas.List.{take_all}
use Rattle.fs_model.specs.Claims.{Has}
use Rattle.fs_closing.specs.Rules.{no_rule, rules_above, HaveSame}
use Rattle.fs_closing.proofs.HasLemmas.{Has-at}
use Rattle.fs_closing.proofs.RangeLemmas.{Has-of_filter}
use Rattle.fs_unify.proofs.OwedRows.{above_in, same_filter, marked}
use Rattle.fs_unify.proofs.owed.rules_owed.Goals as goal

pub bounds-marks-rule : goal.bounds-marks-rule
bounds-marks-rule c =
    let list = c.rules_above-rule-items.result.now in
    let at = Has-at list c.loop-rule.rule-index 0 c.loop-rule-test.true in
    omega (arith, above_in c.args.system.now c.args.t list c.rules_above-rule-items.ensures (slice_index_or list c.loop-rule.rule-index 0) at, c.requires.marks)

pub returns-clause-marked : goal.returns-clause-marked
returns-clause-marked c = λ owed m.
    let list = c.rules_above-rule-items.result.now in
    let g = c.args.system.now in
    let test = λ (j : ℕ). list_any owed (slice_index_or g.rules j no_rule).claims in
    let above = rules_above g.types g.rules c.args.t in
    subst (λ l. HaveSame l (filter test above))
    (sym (c.loop-rule.invariant ∙ ap (filter (λ j. slice_index_or c.args.marks.now j false)) (take_all c.loop-rule.rule-index list c.loop-rule-test.false)
    ∙ marked g owed c.args.marks.now m list (above_in g c.args.t list c.rules_above-rule-items.ensures)))
    (same_filter test list above c.rules_above-rule-items.ensures)

pub returns-clause-inside : goal.returns-clause-inside
returns-clause-inside c = λ j h.
    let list = c.rules_above-rule-items.result.now in
    let mark = λ (k : ℕ). slice_index_or c.args.marks.now k false in
    let taken = subst (Has j) (c.loop-rule.invariant ∙ ap (filter mark) (take_all c.loop-rule.rule-index list c.loop-rule-test.false)) h in
    above_in c.args.system.now c.args.t list c.rules_above-rule-items.ensures j (Has-of_filter mark list j taken).0
