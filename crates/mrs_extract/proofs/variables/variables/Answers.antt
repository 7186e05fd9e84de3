use Rattle.mrs_model.specs.Views.{variable_of}
use Rattle.mrs_places.specs.Paths.{paths_of}
use Rattle.mrs_extract.specs.Extraction.{IsVariableAt}
use Rattle.mrs_extract.proofs.Gathering.{zip_next}
use Rattle.mrs_extract.proofs.variables.variables.Goals as goal

pub loop-k-preserved : goal.loop-k-preserved
loop-k-preserved c =
    zip_next (IsVariableAt c.args.graph.now c.args.types.now (paths_of c.args.paths.now)) c.args.nodes.now c.loop-k.k 0 variable_of _ _ _ c.loop-k-test.true c.in_ok-push.ensures.items c.in_ok-variable.ensures c.loop-k.invariant
