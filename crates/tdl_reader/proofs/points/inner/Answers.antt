use Rattle.std.proofs.Common.{ap, map}
use Rattle.std.proofs.lemmas.Result.{IfOk-weaker, IfErr-weaker}
use Rattle.tdl_reader.specs.Views.{term_of}
use Rattle.tdl_reader.proofs.Stacks.{inner_found, inner_fault}
use Rattle.tdl_reader.proofs.points.inner.Goals as goal

pub returns-clause-found : goal.returns-clause-found
returns-clause-found c = IfOk-weaker c.term.result _ _ (λ p h. inner_found _ _ _ _ _ _ _ c.in_ok-open_frame.ensures.found (ap (map term_of) c.new.ensures.items) h) c.term.ensures.found

pub returns-clause-fault : goal.returns-clause-fault
returns-clause-fault c = IfErr-weaker c.term.result _ _ (λ e h. inner_fault _ _ _ _ _ _ _ (ap (map term_of) c.new.ensures.items) h) c.term.ensures.fault
