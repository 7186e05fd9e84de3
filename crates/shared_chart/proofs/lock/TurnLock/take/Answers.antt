use Rattle.std.proofs.Common.{◌∙◌, ap, Some, arith}
use mathlib.Core.Option.{none}
use Rattle.atomic_table.specs.Table.{step}
use Rattle.shared_chart.proofs.Slots.{takes_it, carries_first}
use Rattle.shared_chart.proofs.lock.TurnLock.take.Goals as goal

pub load-word-requires : goal.load-word-requires
load-word-requires g c = (c.requires.id, (let w = c.args.self.now.words in omega arith), takes_it _ _ _ _ g.M.Machine.itself g.M.Machine.goes_on _ _ _ _ (step 0 0 0 0 none) c.args.chair.now.me c.requires.called.0 c.requires.called.1)

pub exchange-requires : goal.exchange-requires
exchange-requires g c = let h = c.load-word.ensures in (h.0 ∙ c.requires.id, (Some h.2.0, carries_first (ap (λ m. m.1) h.2.2)))
