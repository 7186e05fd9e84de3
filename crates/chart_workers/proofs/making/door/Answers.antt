use Rattle.chart_workers.proofs.Steps.{forks}
use Rattle.chart_workers.proofs.making.door.Goals as goal

pub another-pass-requires : goal.another-pass-requires
another-pass-requires c = forks _ _ c.requires.parts
