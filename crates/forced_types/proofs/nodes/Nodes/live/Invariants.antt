use Rattle.std.proofs.Common.{◌<◌}
use Rattle.fs_model.specs.Claims.{same}
use Rattle.forced_types.specs.Inner.Sound.{Forces, size_of, path_in}
use Rattle.forced_types.proofs.nodes.Nodes.live.Given as goal

abbrev pub invariant-loop : goal.invariant-loop
invariant-loop l = record {
  inside : l.at < size_of l.self;
  equal : Forces l.given (same (path_in l.self l.n) (path_in l.self l.at));
}
