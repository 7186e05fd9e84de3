use Rattle.tree_model.proofs.Spanned.{licensed_are_wanted}
use Rattle.tree_model.proofs.ParseAnswered.{forests_are_licensed, found_is_answer, parse_answers_are_one}
use Rattle.tree_model.proofs.licensed.parse_laws.Goals as goal

pub returns : goal.returns
returns c = record { wanted = licensed_are_wanted; licensed = forests_are_licensed; found = found_is_answer; one = parse_answers_are_one }
