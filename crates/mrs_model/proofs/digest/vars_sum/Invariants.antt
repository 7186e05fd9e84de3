use Rattle.std.proofs.Common.{◌≡◌, ◌%◌, ◌^◌, map, take}
use Rattle.std.specs.List.{sum_by}
use Rattle.mrs_model.specs.Views.{variable_of}
use Rattle.mrs_model.specs.Digest.{variable_key}
use Rattle.mrs_model.proofs.digest.vars_sum.Given as goal

abbrev pub invariant-loop-variable : goal.invariant-loop-variable
invariant-loop-variable l = l.sum ≡ sum_by variable_key (map variable_of (take l.variable-index l.vars)) % 2 ^ 64
