use Rattle.std.proofs.Common.{arith}
use mathlib.Core.Option.{none}
use Rattle.atomic_table.specs.Table.{step}
use Rattle.shared_chart.proofs.Steps.{looks}
use Rattle.shared_chart.proofs.lock.TurnLock.is_called.Goals as goal

pub load-requires : goal.load-requires
load-requires g c = (c.requires.id, (let w = c.args.self.now.words in omega arith), looks _ _ _ _ _ _ _ _ _ (step 0 0 0 0 none) c.args.chair.now.me c.requires.turn.1)
