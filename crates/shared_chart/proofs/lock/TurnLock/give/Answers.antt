use Rattle.std.proofs.Common.{arith}
use mathlib.Core.Option.{none}
use Rattle.atomic_table.specs.Table.{step}
use Rattle.shared_chart.proofs.Slots.{gives_it}
use Rattle.shared_chart.proofs.lock.TurnLock.give.Goals as goal

pub load-requires : goal.load-requires
load-requires g c = let r = c.requires.back in (c.requires.id, (let w = c.args.self.now.words in omega arith), gives_it _ _ _ _ g.M.Machine.itself g.M.Machine.goes_on _ _ _ _ r.0 r.1 r.2 (step 0 0 0 0 none) c.args.chair.now.me c.requires.holds (record { comes = r.3; has = r.4; same = r.5 }))
