use Rattle.tdl_reader.specs.Machine.{begun}
use Rattle.tdl_reader.specs.Running.{read_from}
use Rattle.tdl_reader.proofs.Faults.{outcome, some_outcome}
use Rattle.tdl_reader.proofs.each_has_a_reading.Goals as goal

pub returns : goal.returns
returns c ts = some_outcome ts (read_from begun ts) (outcome ts)
