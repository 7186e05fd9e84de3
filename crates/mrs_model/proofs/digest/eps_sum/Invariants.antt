use Rattle.std.proofs.Common.{◌≡◌, ◌%◌, ◌^◌, map, take}
use Rattle.std.specs.List.{sum_by}
use Rattle.mrs_model.specs.Views.{predication_of}
use Rattle.mrs_model.specs.Digest.{ep_key}
use Rattle.mrs_model.proofs.digest.eps_sum.Given as goal

abbrev pub invariant-loop-ep : goal.invariant-loop-ep
invariant-loop-ep l = l.sum ≡ sum_by ep_key (map predication_of (take l.ep-index l.eps)) % 2 ^ 64
