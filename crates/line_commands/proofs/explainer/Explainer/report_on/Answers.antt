use Rattle.tree_faults.specs.Views.{explanation_of}
use Rattle.line_commands.proofs.explainer.Explainer.report_on.Goals as goal

pub returns : goal.returns
returns c = record {
  explained = explanation_of c.in_ok-explanation.explanation;
  told = c.in_ok-explanation.ensures.told;
  lines_are = c.in_ok-lines.ensures;
  refused_is = c.is_refused-refused.ensures;
}
