use Rattle.std.proofs.Common.{ℕ, ◌≡◌, ◌⊎◌, true, [], ◌∷◌, take, slice_index_or, sym, ◌∙◌, subst, arith}
use Rattle.std.proofs.lemmas.List.{take_more, take_all}
use Rattle.type_hierarchy.specs.Table.{is_below}
use Rattle.fs_model.specs.Claims.{Has}
use Rattle.fs_model.specs.Table.{Follows, from}
use Rattle.fs_closing.specs.NodeTable.{table_of}
use Rattle.fs_closing.specs.Rules.{no_rule, system_of}
use Rattle.fs_closing.specs.Work.{work_of}
use Rattle.fs_closing.proofs.HasLemmas.{Has-at, Has-either}
use Rattle.fs_unify.specs.Debts.{IsPaidBy}
use Rattle.fs_unify.specs.Owing.{debts_at}
use Rattle.fs_unify.proofs.CarryLemmas.{carries_none, carries_on}
use Rattle.fs_unify.proofs.PayLemmas.{row_above, row_in, debt_known, row_pays, rule_pays, payer}
use Rattle.fs_unify.proofs.entering.enter_rules.Goals as goal

pub loop-rule-init : goal.loop-rule-init
loop-rule-init c =
    let g = c.args.system.now in
    record {
      carries = carries_none (system_of g) (table_of c.args.nodes.now) (work_of g.rules c.args.tasks.now);
      sound = c.requires.sound;
      flat = λ f. f;
      paid = λ facts i j d lists h paid j_in has owed. elim h [ ];
    }

pub rules-rule-items-requires-clause-at_root : goal.rules-rule-items-requires-clause-at_root
rules-rule-items-requires-clause-at_root c = omega (arith, c.requires.ty_in, c.requires.lists.1.at_root.each)

pub rules-rule-items-requires-clause-further : goal.rules-rule-items-requires-clause-further
rules-rule-items-requires-clause-further c = omega (arith, c.requires.ty_in, c.requires.lists.1.further.each)

pub debt-requires-clause-at_root : goal.debt-requires-clause-at_root
debt-requires-clause-at_root c =
    let list = c.rules-rule-items.result.now in
    let i = c.loop-rule.rule-index in
    let j_in = row_in c.args.system.now c.requires.lists.0 c.args.owed.now c.requires.lists.1 c.args.is_root c.args.ty (slice_index_or list i 0) c.requires.ty_in
    (subst (Has (slice_index_or list i 0)) c.rules-rule-items.ensures (Has-at list i 0 c.loop-rule-test.true)) in
    omega (arith, j_in, c.requires.lists.1.root_debts.each)

pub debt-requires-clause-further : goal.debt-requires-clause-further
debt-requires-clause-further c =
    let list = c.rules-rule-items.result.now in
    let i = c.loop-rule.rule-index in
    let j_in = row_in c.args.system.now c.requires.lists.0 c.args.owed.now c.requires.lists.1 c.args.is_root c.args.ty (slice_index_or list i 0) c.requires.ty_in
    (subst (Has (slice_index_or list i 0)) c.rules-rule-items.ensures (Has-at list i 0 c.loop-rule-test.true)) in
    omega (arith, j_in, c.requires.lists.1.further_debts.each)

pub enter_rule-requires-clause-rule : goal.enter_rule-requires-clause-rule
enter_rule-requires-clause-rule c =
    let list = c.rules-rule-items.result.now in
    let i = c.loop-rule.rule-index in
    row_in c.args.system.now c.requires.lists.0 c.args.owed.now c.requires.lists.1 c.args.is_root c.args.ty (slice_index_or list i 0) c.requires.ty_in
    (subst (Has (slice_index_or list i 0)) c.rules-rule-items.ensures (Has-at list i 0 c.loop-rule-test.true))

pub enter_rule-requires-clause-node : goal.enter_rule-requires-clause-node
enter_rule-requires-clause-node c = omega (arith, c.requires.node, c.loop-rule.invariant.carries.more)

pub enter_rule-requires-clause-above : goal.enter_rule-requires-clause-above
enter_rule-requires-clause-above c =
    let g = c.args.system.now in
    let list = c.rules-rule-items.result.now in
    let i = c.loop-rule.rule-index in
    let above = row_above g c.requires.lists.0 c.args.owed.now c.requires.lists.1 c.args.is_root c.args.ty (slice_index_or list i 0) c.requires.ty_in
    (subst (Has (slice_index_or list i 0)) c.rules-rule-items.ensures (Has-at list i 0 c.loop-rule-test.true)) in
    subst (λ t. is_below g.types t (slice_index_or g.rules (slice_index_or list i 0) no_rule).ty ≡ true)
    (sym (c.loop-rule.invariant.carries.type_old c.args.node c.requires.node ∙ c.requires.type_is)) above

pub enter_rule-requires-clause-debt : goal.enter_rule-requires-clause-debt
enter_rule-requires-clause-debt c = λ d e.
    let list = c.rules-rule-items.result.now in
    let i = c.loop-rule.rule-index in
    let j_in = row_in c.args.system.now c.requires.lists.0 c.args.owed.now c.requires.lists.1 c.args.is_root c.args.ty (slice_index_or list i 0) c.requires.ty_in
    (subst (Has (slice_index_or list i 0)) c.rules-rule-items.ensures (Has-at list i 0 c.loop-rule-test.true)) in
    (debt_known c.args.system.now c.requires.lists.0 c.args.owed.now c.requires.lists.1 c.args.is_root (slice_index_or list i 0) d j_in
    (sym c.debt.ensures ∙ e)).is

pub loop-rule-preserved : goal.loop-rule-preserved
loop-rule-preserved c =
    let g = c.args.system.now in
    let s = system_of g in
    let list = c.rules-rule-items.result.now in
    let i = c.loop-rule.rule-index in
    let rule = slice_index_or list i 0 in
    let r = c.in_ok-enter_rule.ensures in
    let now = table_of c.enter_rule.new.nodes in
    let work = work_of g.rules c.enter_rule.new.tasks in
    record {
      carries = carries_on s _ _ _ _ _ _ c.loop-rule.invariant.carries r.carries;
      sound = r.sound;
      flat = λ f. r.flat (c.loop-rule.invariant.flat f);
      paid = λ facts k j d lists h paid j_in has owed.
          let each : Has k (take i list) ⊎ Has k (rule ∷ []) = Has-either k (take i list) (rule ∷ []) (subst (Has k) (take_more list i 0 c.loop-rule-test.true) h) in
          row_pays s now work c.args.node d k (take i list) rule each
          (λ old. r.carries.follows _ (c.loop-rule.invariant.paid facts k j d lists old paid j_in has owed))
          (λ e. rule_pays g facts c.args.owed.now lists c.args.is_root rule j d now work c.args.node
          (subst (λ m. IsPaidBy g (debts_at c.args.owed.now c.args.is_root) m j) e paid) j_in has owed
          (λ none. r.says (c.debt.ensures ∙ none)) (λ known is. r.stands known (c.debt.ensures ∙ is))
          (row_in g c.requires.lists.0 c.args.owed.now c.requires.lists.1 c.args.is_root c.args.ty rule c.requires.ty_in
          (subst (Has rule) c.rules-rule-items.ensures (Has-at list i 0 c.loop-rule-test.true))));
    }

pub returns-clause-paid : goal.returns-clause-paid
returns-clause-paid c = λ facts x d lists below_is has owed.
    let g = c.args.system.now in
    let list = c.rules-rule-items.result.now in
    let all = subst (λ l. (i : ℕ) → Has i l → Has i (take c.loop-rule.rule-index list)) c.rules-rule-items.ensures
    (λ i h. subst (Has i) (sym (take_all c.loop-rule.rule-index list c.loop-rule-test.false)) h) in
    payer g facts c.args.owed.now lists c.args.is_root c.args.ty x d c.requires.ty_in below_is has owed (Follows (system_of g) (table_of c.loop-rule.nodes) (work_of g.rules c.loop-rule.tasks) (from c.args.node d))
    (λ i j h paid j_in claim. c.loop-rule.invariant.paid facts i j d lists (all i h) paid j_in claim owed)
