use Rattle.std.proofs.Common.{◌-◌, length, refl}
use Rattle.mrs_places.specs.Paths.{paths_of}
use Rattle.mrs_extract.proofs.Spreading.{wait_more}
use Rattle.mrs_extract.proofs.properties.wait.Goals as goal

pub loop-k-preserved : goal.loop-k-preserved
loop-k-preserved c =
    wait_more (paths_of c.args.paths.now) c.arcs-arcs.result.now c.args.depth c.loop-k.k (length c.arcs-arcs.result.now - 1 - c.loop-k.k) _ _ _ _ c.loop-k-test.true refl c.in_ok-wait_for.ensures c.loop-k.invariant
