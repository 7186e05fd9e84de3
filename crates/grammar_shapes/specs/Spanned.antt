-- Rules over spans.
use Rattle.chart_model.specs.Calculus.{Calculus}
use Rattle.chart_model.specs.declared.span.Span.{Span}
use Rattle.chart_model.specs.Spans.{span_join, span_size, join_all, same_span, is_span}
use Rattle.tree_model.specs.Structures.{Structure}
use Rattle.tree_model.specs.Mothers.{RuleSystem}
use Rattle.tree_model.specs.Laws.{rules_calculus}

-- a mother covers what her daughters cover, from end to end
abbrev pub span_calculus : RuleSystem → Calculus Structure Span
span_calculus g = rules_calculus g (λ _ cs. join_all cs) same_span span_join span_size is_span
