use Rattle.std.proofs.Common.{arith}
use mathlib.Core.Option.{none}
use Rattle.atomic_table.specs.Table.{step}
use Rattle.shared_chart.proofs.Steps.{draws}
use Rattle.shared_chart.proofs.lock.TurnLock.draw.Goals as goal

pub fetch_add-requires : goal.fetch_add-requires
fetch_add-requires g c = (c.requires.id, (let w = c.args.self.now.words in omega arith), draws _ _ _ _ _ _ _ _ (step 0 0 0 0 none) c.args.chair.now.me c.requires.idle.0 c.requires.idle.1)
