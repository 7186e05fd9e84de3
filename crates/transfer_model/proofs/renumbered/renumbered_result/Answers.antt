use Rattle.transfer_model.proofs.RenumberRuns.{result, none}
use Rattle.transfer_model.proofs.renumbered.renumbered_result.Goals as goal

pub returns-clause-result : goal.returns-clause-result
returns-clause-result c = λ allows rs m k a b i j to vm vk is n p q. result c.one_application.ensures.some c.one_result.ensures.one allows rs m k a b i j to vm vk is n p q

pub returns-clause-none : goal.returns-clause-none
returns-clause-none c = λ allows rs m k to vm vk is n h. none c.one_application.ensures.some allows rs m k to vm vk is n h
