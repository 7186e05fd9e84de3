use Rattle.std.proofs.Common.{arith}
use mathlib.Core.Option.{none}
use Rattle.atomic_table.specs.Table.{step}
use Rattle.shared_chart.proofs.Slots.{ends_it}
use Rattle.shared_chart.proofs.lock.TurnLock.end.Goals as goal

pub fetch_add-requires : goal.fetch_add-requires
fetch_add-requires g c = (c.requires.id, (let w = c.args.self.now.words in omega arith), ends_it _ _ _ _ g.M.Machine.itself g.M.Machine.goes_on _ _ _ _ (step 0 0 0 0 none) c.args.chair.now.me c.requires.called.0 c.requires.called.1)
