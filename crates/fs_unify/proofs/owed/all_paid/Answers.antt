use Rattle.std.proofs.Common.{ℕ, ◌⊎◌, inl, inr, [], ◌∷◌, take, slice_index_or, sym, subst}
use Rattle.std.proofs.lemmas.List.{take_more, take_all}
use Rattle.fs_model.specs.Claims.{Has}
use Rattle.fs_closing.proofs.HasLemmas.{Has-at, Has-either, Has-one}
use Rattle.fs_unify.specs.Debts.{IsPaidBy}
use Rattle.fs_unify.proofs.owed.all_paid.Goals as goal

pub loop-rule-init : goal.loop-rule-init
loop-rule-init c = λ j h. elim h [ ]

pub one_pays-requires-clause-rule : goal.one_pays-requires-clause-rule
one_pays-requires-clause-rule c = c.requires.rules _ (Has-at c.args.rules.now c.loop-rule.rule-index 0 c.loop-rule-test.true)

pub loop-rule-preserved : goal.loop-rule-preserved
loop-rule-preserved c = λ j h.
    let list = c.args.rules.now in
    let i = c.loop-rule.rule-index in
    one j (Has-either j (take i list) (slice_index_or list i 0 ∷ []) (subst (Has j) (take_more list i 0 c.loop-rule-test.true) h))
  where
    one : (j : ℕ) → Has j (take c.loop-rule.rule-index c.args.rules.now) ⊎ Has j (slice_index_or c.args.rules.now c.loop-rule.rule-index 0 ∷ []) →
        (i : ℕ) × Has i c.args.row.now × IsPaidBy c.args.system.now c.args.debts.now i j
    one j (inl h) = c.loop-rule.invariant j h
    one j (inr h) =
        subst (λ k. (i : ℕ) × Has i c.args.row.now × IsPaidBy c.args.system.now c.args.debts.now i k) (sym (Has-one j _ h)) (c.one_pays.ensures c.if-not-one_pays.false)

pub returns : goal.returns
returns c = λ e j h. c.loop-rule.invariant j (subst (Has j) (sym (take_all c.loop-rule.rule-index c.args.rules.now c.loop-rule-test.false)) h)
