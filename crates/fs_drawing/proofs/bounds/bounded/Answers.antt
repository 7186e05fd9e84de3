use Rattle.std.proofs.Common.{subst}
use Rattle.fs_drawing.specs.Inner.Climbing.{Climbs}
use Rattle.fs_drawing.proofs.bounds.bounded.Goals as goal

pub loop-init : goal.loop-init
loop-init c = c.in_ok-begin.ensures c.args.limit

pub loop-preserved : goal.loop-preserved
loop-preserved c = subst (Climbs c.args.nodes.now c.args.limit c.step_on.new.heights) c.in-Goes.is c.in_ok-step_on.ensures

pub returns-in-Ended : goal.returns-in-Ended
returns-in-Ended c = subst (Climbs c.args.nodes.now c.args.limit c.step_on.new.heights) c.in-Ended.is c.in_ok-step_on.ensures

pub returns-in-Clashed : goal.returns-in-Clashed
returns-in-Clashed c = subst (Climbs c.args.nodes.now c.args.limit c.step_on.new.heights) c.in-Clashed.is c.in_ok-step_on.ensures
