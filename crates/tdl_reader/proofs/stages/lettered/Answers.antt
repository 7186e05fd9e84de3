use Rattle.std.proofs.Common.{◌∙◌}
use Rattle.std.proofs.lemmas.Result.{IfOk-weaker, IfErr-weaker}
use Rattle.tdl_reader.proofs.StageLemmas.{lettered_else, stop_same}
use Rattle.tdl_reader.proofs.stages.lettered.Goals as goal

pub returns-in_default-clause-found : goal.returns-in_default-clause-found
returns-in_default-clause-found c = IfOk-weaker c.first_word.result _ _ (λ p h done. lettered_else _ c.in_default.not-Dot done _ ∙ h done) c.first_word.ensures.found

pub returns-in_default-clause-fault : goal.returns-in_default-clause-fault
returns-in_default-clause-fault c = IfErr-weaker c.first_word.result _ _ (λ e h done. stop_same _ _ _ _ (lettered_else _ c.in_default.not-Dot done _) (h done)) c.first_word.ensures.fault
