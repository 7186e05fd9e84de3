use Rattle.fs_model.specs.Sources.{Told}
use Rattle.forced_types.proofs.VerdictLemmas.{fits_consistent, consistent_fits, one_verdict, one_within}
use Rattle.forced_types.proofs.laws.forced_laws.Goals as goal

pub returns-clause-right : goal.returns-clause-right
returns-clause-right c = λ s source. (fits_consistent s (Told source), consistent_fits s (Told source))

pub returns-clause-one : goal.returns-clause-one
returns-clause-one c = λ s source a b. one_verdict s (Told source) a b

pub returns-clause-within : goal.returns-clause-within
returns-clause-within c = λ s source limit a b. one_within s (Told source) limit a b
