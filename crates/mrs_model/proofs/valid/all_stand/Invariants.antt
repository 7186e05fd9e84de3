use Rattle.std.proofs.Common.{ℕ, ◌<◌}
use Rattle.mrs_model.specs.Valid.{Stands}
use Rattle.mrs_model.specs.Views.{meaning_of}
use Rattle.mrs_model.proofs.valid.all_stand.Given as goal

abbrev pub invariant-loop-v : goal.invariant-loop-v
invariant-loop-v l = (w : ℕ) → w < l.v → Stands (meaning_of l.mrs) w
