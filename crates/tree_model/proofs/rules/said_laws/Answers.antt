use Rattle.tree_model.proofs.SaidLemmas.{said_is_says, said_closes, said_trims, said_is_consistent, same_views}
use Rattle.tree_model.proofs.rules.said_laws.Goals as goal

pub returns : goal.returns
returns c = record { says = said_is_says; closes = said_closes; trims = said_trims; consistent = said_is_consistent; views = same_views }
