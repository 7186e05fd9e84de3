use Rattle.std.proofs.Common.{refl}
use Rattle.mrs_model.specs.Views.{variable_of}
use Rattle.mrs_model.specs.Digest.{variable_key}
use Rattle.mrs_model.proofs.Sums.{sum_more, sum_all}
use Rattle.mrs_model.proofs.digest.vars_sum.Goals as goal

pub loop-variable-preserved : goal.loop-variable-preserved
loop-variable-preserved c = sum_more variable_of variable_key c.args.vars.now c.loop-variable.variable-index c.variable-item.result _ _ _ c.loop-variable-test.true c.variable-item.is c.loop-variable.invariant c.variable_key-sum.ensures refl

pub returns : goal.returns
returns c = sum_all variable_of variable_key c.args.vars.now c.loop-variable.variable-index _ c.loop-variable-test.false c.loop-variable.invariant
