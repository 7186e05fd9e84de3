use Rattle.fault_details.proofs.OneLine.{further-one}
use Rattle.fault_details.proofs.laws.one_further.Goals as goal

pub returns : goal.returns
returns c = further-one c.one_walk.ensures c.one_settling.ensures.tables c.forced_laws.ensures.within
