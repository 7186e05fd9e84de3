use Rattle.tree_model.proofs.AllLaws.{shapes_are_made, fulls_are_made, leaves_are_made, none_where_refused, tests_are_subsumption, types_refuse}
use Rattle.tree_model.proofs.Steps.{cut_trims, steps_trim, answers_are_short}
use Rattle.tree_model.proofs.rules.making_laws.Goals as goal

pub returns : goal.returns
returns c = record { shapes = shapes_are_made; fulls = fulls_are_made; leaves = leaves_are_made; refused = none_where_refused; subsumed = tests_are_subsumption; types = types_refuse; cut = cut_trims; steps = steps_trim; short = answers_are_short }
