use Rattle.std.proofs.Common.{ℕ, sym, subst}
use Rattle.type_hierarchy.specs.Laws.{HasTypeLaws}
use Rattle.fs_model.specs.Claims.{Has}
use Rattle.fs_closing.proofs.OrderLemmas.{order_of_laws}
use Rattle.fs_unify.specs.Debts.{IsPaidBy}
use Rattle.fs_unify.proofs.OwedRows.{owing_row, paid_itself}
use Rattle.fs_unify.proofs.owed.row_owed.Goals as goal

pub least_of-requires-clause-rules : goal.least_of-requires-clause-rules
least_of-requires-clause-rules c = λ j h. c.in_ok-rules.ensures.inside j (subst (Has j) c.deref.ensures.value h)

pub all_paid-requires-clause-row : goal.all_paid-requires-clause-row
all_paid-requires-clause-row c = λ j h.
    c.in_ok-rules.ensures.inside j (subst (Has j) c.deref.ensures.value (c.in_ok-row.ensures j (subst (Has j) c.deref-2.ensures.value h)))

pub all_paid-requires-clause-rules : goal.all_paid-requires-clause-rules
all_paid-requires-clause-rules c = λ j h. c.in_ok-rules.ensures.inside j (subst (Has j) c.deref-3.ensures.value h)

pub returns-then-all_paid : goal.returns-then-all_paid
returns-then-all_paid c = λ owed marked.
    let g = c.args.system.now in
    let rules = c.in_ok-rules.rules.items in
    let row = c.in_ok-row.row.items in
    owing_row g owed c.args.debts.now c.args.t rules row (c.in_ok-rules.ensures.marked owed marked)
    (λ j h. subst (Has j) c.deref.ensures.value (c.in_ok-row.ensures j h))
    (λ j h. subst (λ l. (i : ℕ) × Has i l × IsPaidBy g c.args.debts.now i j) c.deref-2.ensures.value
    (c.all_paid.ensures c.if-all_paid.true j (subst (Has j) (sym c.deref-3.ensures.value) h)))

pub returns : goal.returns
returns c = λ owed marked.
    let g = c.args.system.now in
    let rules = c.in_ok-rules.rules.items in
    let order = order_of_laws g (subst HasTypeLaws c.types.ensures c.laws.ensures) in
    owing_row g owed c.args.debts.now c.args.t rules rules (c.in_ok-rules.ensures.marked owed marked) (λ j h. h) (λ j h. (j, h, paid_itself g c.args.debts.now j order))
