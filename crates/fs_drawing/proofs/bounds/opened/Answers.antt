use Rattle.fs_drawing.proofs.ClimbArcs.{opened_passing}
use Rattle.fs_drawing.proofs.bounds.opened.Goals as goal

pub returns-clause-passing : goal.returns-clause-passing
returns-clause-passing c = λ noted. opened_passing c.args.nodes.now c.requires.whole c.args.n c.first_of.result c.requires.node c.first_of.ensures noted
