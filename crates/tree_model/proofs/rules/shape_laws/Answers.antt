use Rattle.tree_model.proofs.AllLaws.{rules_keep_shapes, rules_agree, leaves_agree, tests_are_exact, one_cut_does}
use Rattle.tree_model.proofs.Needs.{nothing_is_owed}
use Rattle.tree_model.proofs.rules.shape_laws.Goals as goal

pub returns : goal.returns
returns c = record { laws = rules_keep_shapes; agreement = rules_agree; leaves = leaves_agree; tests = tests_are_exact; one_cut = one_cut_does; owed = nothing_is_owed }
