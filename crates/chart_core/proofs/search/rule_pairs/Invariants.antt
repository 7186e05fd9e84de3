use Rattle.std.proofs.Common.{◌≡◌, ◌++◌, ◌-◌, map, All, None}
use Rattle.chart_model.specs.Chart.{rule_tasks}
use Rattle.chart_core.specs.View.{task_of}
use Rattle.chart_core.proofs.search.rule_pairs.Given as goal

abbrev pub invariant-loop-rule : goal.invariant-loop-rule
invariant-loop-rule l = record {
  fresh : All (λ t. t.done ≡ None) l.found.items;
  pairs : map task_of l.found.items ++ rule_tasks l.number l.rule (l.rules - l.rule) ≡ rule_tasks l.number 0 l.rules;
}
