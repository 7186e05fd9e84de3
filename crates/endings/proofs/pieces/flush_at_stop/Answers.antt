use Rattle.endings.proofs.PieceLemmas.{by-result}
use Rattle.endings.proofs.pieces.flush_at_stop.Goals as goal

pub returns-clause-flushed : goal.returns-clause-flushed
returns-clause-flushed g c = by-result c.flush-flushed.result _ _ c.flush-flushed.ensures.ok c.flush-flushed.ensures.failed
