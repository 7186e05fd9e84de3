use Rattle.morph_analysis.proofs.OrderLemmas.{same_list}
use Rattle.morph_analysis.proofs.laws.one_list.Goals as goal

pub returns-clause-one : goal.returns-clause-one
returns-clause-one c = λ lexicon s f l depth cs ds p q. same_list cs ds p.order q.order (λ x h. q.all x (p.have x h)) (λ x h. p.all x (q.have x h))
