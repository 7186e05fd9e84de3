use Rattle.std.proofs.Common.{◌≡◌, ◌∙◌, ◌+◌, ◌-◌, ◌++◌, refl, sym, ap, subst, arith, map, All, None, rules}
use Rattle.std.proofs.lemmas.Grind.{common_steps}
use Rattle.chart_model.specs.Chart.{rule_tasks}
use Rattle.chart_core.specs.declared.history.TaskRow.{TaskRow}
use Rattle.chart_core.specs.View.{task_of}
use Rattle.chart_core.proofs.Picks.{rule_pushed, rule_end}
use Rattle.chart_core.proofs.search.rule_pairs.Goals as goal

pub loop-rule-init : goal.loop-rule-init
loop-rule-init c = record { fresh = search rules; pairs = ap (λ xs. map task_of xs ++ rule_tasks c.args.number 0 (c.args.rules - 0)) c.new-found.ensures.items ∙ (let z : c.args.rules - 0 ≡ c.args.rules = omega arith in ap (rule_tasks c.args.number 0) z) }

pub loop-rule-preserved : goal.loop-rule-preserved
loop-rule-preserved c =
    let t : TaskRow = record { rule = c.loop-rule.rule; partial = None; host = record { 0 = c.args.number }; done = None } in
    record {
      fresh = subst (All (λ t. t.done ≡ None)) (sym c.in_ok-push.ensures.items) (grind (arith, common_steps, c.loop-rule.invariant.fresh));
      pairs = subst (λ xs. map task_of xs ++ rule_tasks c.args.number (c.loop-rule.rule + 1) (c.args.rules - (c.loop-rule.rule + 1)) ≡ rule_tasks c.args.number 0 c.args.rules) (sym c.in_ok-push.ensures.items)
          (rule_pushed c.args.number c.loop-rule.rule c.args.rules c.loop-rule.found.items t (rule_tasks c.args.number 0 c.args.rules) (omega arith) refl c.loop-rule.invariant.pairs);
    }

pub returns-clause-pairs : goal.returns-clause-pairs
returns-clause-pairs c = rule_end c.args.number c.loop-rule.rule c.args.rules c.loop-rule.found.items (rule_tasks c.args.number 0 c.args.rules) (omega arith) c.loop-rule.invariant.pairs
