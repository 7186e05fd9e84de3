use Rattle.std.proofs.Common.{◌-◌, length, arith}
use Rattle.mrs_model.specs.Valid.{IsPredication}
use Rattle.mrs_model.specs.Views.{predication_of}
use Rattle.mrs_transfer.proofs.Growing.{holds_at}
use Rattle.mrs_transfer.proofs.applying.push_output.Goals as goal

pub output_ep-requires : goal.output_ep-requires
output_ep-requires c =
    holds_at predication_of (IsPredication (length c.args.vars.now)) c.args.output.now (c.loop-left.left - 1) c.index-output-left.result (omega (arith, c.loop-left-test.true, c.loop-left.invariant.few)) c.index-output-left.is c.requires
