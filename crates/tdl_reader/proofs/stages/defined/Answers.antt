use Rattle.std.proofs.Common.{◌∙◌}
use Rattle.std.proofs.lemmas.Result.{IfOk-weaker, IfErr-weaker}
use Rattle.tdl_reader.proofs.StageLemmas.{defined_else, stop_same}
use Rattle.tdl_reader.proofs.stages.defined.Goals as goal

pub returns-in_default : goal.returns-in_default
returns-in_default c = record {
  found = IfOk-weaker c.body_begins.result _ _ (λ p h done. defined_else _ c.in_default.not-Prefix c.in_default.not-Suffix done _ _ _ ∙ h done) c.body_begins.ensures.found;
  fault = IfErr-weaker c.body_begins.result _ _ (λ e h done. stop_same _ _ _ _ (defined_else _ c.in_default.not-Prefix c.in_default.not-Suffix done _ _ _) (h done)) c.body_begins.ensures.fault;
}
