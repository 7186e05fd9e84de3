use Rattle.std.proofs.Common.{◌≡◌, ◌+◌, ◌-◌, ◌^◌, take}
use Rattle.std.specs.Prelude.{sum}
use Rattle.mrs_generate.proofs.asking.is_small.Given as goal

abbrev pub invariant-loop-count : goal.invariant-loop-count
invariant-loop-count l = sum (take l.count-index l.counts) + l.bound.empty + l.left ≡ 2 ^ 32 - 1
