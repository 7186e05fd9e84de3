use Rattle.std.proofs.Common.{refl}
use Rattle.spelling_rules.specs.Forms.{rule_at, listed_forms, once}
use Rattle.spelling_rules.specs.Inner.Rewriting.{forms_with}
use Rattle.spelling_rules.proofs.FormLemmas.{forms_one, forms_there, bound_at}
use Rattle.spelling_rules.proofs.laws.one_list.Goals as goal

pub returns-clause-one : goal.returns-clause-one
returns-clause-one c = λ s rule letters xs ys b lt p q. forms_one s rule _ letters xs ys (bound_at s.rules rule lt b) refl p q

pub returns-clause-each : goal.returns-clause-each
returns-clause-each c = λ s rule letters b lt.
    (forms_with (rule_at s.rules rule) (once (listed_forms s.lines rule _)) letters, forms_there (rule_at s.rules rule) (listed_forms s.lines rule _) letters _ (bound_at s.rules rule lt b) refl)
