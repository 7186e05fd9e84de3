use Rattle.body_facts.specs.Claimed.{sayings_of}
use Rattle.body_facts.proofs.CoreferenceLemmas.{equal_in}
use Rattle.body_facts.proofs.laws.coreference_law.Goals as goal

pub returns : goal.returns
returns c = λ s w body name p q hp hq. equal_in s w.types (sayings_of w body) name p q hp hq
