use Rattle.std.proofs.Common.{arith, refl}
use mathlib.Core.Option.{none}
use Rattle.atomic_table.specs.Table.{step}
use Rattle.shared_chart.proofs.Slots.{raises}
use Rattle.shared_chart.proofs.lock.TurnLock.raise.Goals as goal

pub fetch_add-requires : goal.fetch_add-requires
fetch_add-requires g c = let r = c.requires.entry in (c.requires.id, (let w = c.args.self.now.words in omega arith), raises _ _ _ _ g.M.Machine.itself g.M.Machine.goes_on _ _ _ _ _ _ r.0 r.2 r.1 r.3 (step 0 0 0 0 none) c.args.chair.now.me c.requires.holds r.4 r.5 r.7 r.6 refl r.8)
