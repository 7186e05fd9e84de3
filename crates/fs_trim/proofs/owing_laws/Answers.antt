use Rattle.fs_trim.proofs.OweLemmas.{fulls_owe, shapes_owe, abstracts_owe, closures_owe}
use Rattle.fs_trim.proofs.owing_laws.Goals as goal

pub returns : goal.returns
returns c = record { fulls = fulls_owe; shapes = shapes_owe; abstracts = abstracts_owe; closures = closures_owe }
