use Rattle.std.proofs.Common.{◌≡◌, ◌%◌, ◌^◌, map, take}
use Rattle.std.specs.List.{sum_by}
use Rattle.mrs_model.specs.Views.{hcon_of}
use Rattle.mrs_model.specs.Digest.{hcon_key}
use Rattle.mrs_model.proofs.digest.hcons_sum.Given as goal

abbrev pub invariant-loop-hcon : goal.invariant-loop-hcon
invariant-loop-hcon l = l.sum ≡ sum_by hcon_key (map hcon_of (take l.hcon-index l.hcons)) % 2 ^ 64
