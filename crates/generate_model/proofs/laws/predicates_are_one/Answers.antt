use Rattle.generate_model.proofs.OneList.{predicates_are_one}
use Rattle.generate_model.proofs.laws.predicates_are_one.Goals as goal

pub returns : goal.returns
returns c = predicates_are_one
