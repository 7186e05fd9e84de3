use Rattle.std.proofs.Common.{◌≡◌, length, sym, subst, arith}
use Rattle.fs_graph.specs.Facts.{path_of}
use Rattle.fs_unify.specs.Debts.{HaveDebts}
use Rattle.fs_unify.specs.Owing.{speaks_of}
use Rattle.fs_unify.proofs.OwedRows.{debts_none, debts_more}
use Rattle.fs_unify.proofs.owed.debts_of.Goals as goal

pub loop-rule-init : goal.loop-rule-init
loop-rule-init c =
    let owed = speaks_of (path_of c.args.off.at_root.now) (path_of c.args.off.anywhere.now) in
    subst (HaveDebts c.args.system.now owed 0) (sym c.in_ok-debts.ensures.items) (debts_none c.args.system.now owed)

pub loop-rule-preserved : goal.loop-rule-preserved
loop-rule-preserved c =
    debts_more c.args.system.now (speaks_of (path_of c.args.off.at_root.now) (path_of c.args.off.anywhere.now)) c.loop-rule.rule c.loop-rule.debts.items c.push.new.self.items
    c.in_ok-debt.debt c.loop-rule.invariant c.in_ok-push.ensures.items c.in_ok-debt.ensures

pub returns : goal.returns
returns c =
    let g = c.args.system.now in
    let all : c.loop-rule.rule ≡ length g.rules = omega (arith, c.loop-rule-test.false, c.loop-rule.auto.rule-end, c.rule_count-count.ensures) in
    subst (λ n. HaveDebts g (speaks_of (path_of c.args.off.at_root.now) (path_of c.args.off.anywhere.now)) n c.loop-rule.debts.items) all c.loop-rule.invariant
