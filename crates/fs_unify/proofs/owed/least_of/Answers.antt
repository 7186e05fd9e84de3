use Rattle.std.proofs.Common.{slice_index_or, subst}
use Rattle.fs_model.specs.Claims.{Has}
use Rattle.fs_closing.proofs.HasLemmas.{Has-at, each_push}
use Rattle.fs_unify.proofs.owed.least_of.Goals as goal
use Rattle.fs_unify.proofs.owed.least_of.Goals.{then-not-one_spares+in_ok-push, else-not-one_spares}

pub one_spares-requires-clause-rule : goal.one_spares-requires-clause-rule
one_spares-requires-clause-rule c = c.requires.rules _ (Has-at c.args.rules.now c.loop-rule.rule-index 0 c.loop-rule-test.true)

pub loop-rule-preserved : goal.loop-rule-preserved
loop-rule-preserved c =
    let list = c.args.rules.now in
    let i = c.loop-rule.rule-index in
    let old = c.loop-rule.row.items in
    elim c.if-not-one_spares.branch [
      | then-not-one_spares+in_ok-push w ↦ λ j h.
          each_push (λ x. Has x list) old w.push.new.self.items (slice_index_or list i 0) w.in_ok-push.ensures.items c.loop-rule.invariant
          (Has-at list i 0 c.loop-rule-test.true) j (subst (λ v. Has j v.items) w.row-is h)
      | else-not-one_spares w ↦ λ j h. c.loop-rule.invariant j (subst (λ v. Has j v.items) w.row-is h)
    ]
