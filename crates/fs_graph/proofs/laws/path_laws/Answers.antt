use Rattle.fs_graph.proofs.OneList.{lists_are_one}
use Rattle.fs_graph.proofs.laws.path_laws.Goals as goal

pub returns : goal.returns
returns c = lists_are_one
