use Rattle.std.proofs.Common.{◌∙◌, ap, ◌∷◌}
use Rattle.tree_reading.specs.Inner.Stops.{IsStop, IsEnding, BeginsEnding}
use Rattle.tree_reading.proofs.Lifting.{stop_ending, lift_from, lift_to, at_exit}
use Rattle.tree_reading.proofs.numbers.read_ending.Goals as goal

pub returns-in_default-strip-clause-stopped : goal.returns-in_default-strip-clause-stopped
returns-in_default-strip-clause-stopped c = stop_ending c.args.text.now c.in_default.ensures c.in_default-strip.ensures

pub returns-in_err-from-clause-stopped : goal.returns-in_err-from-clause-stopped
returns-in_err-from-clause-stopped c =
    let e = c.in_err-from.field-0.0 in
    at_exit (IsStop IsEnding BeginsEnding c.args.text.now) c.from_residual.result e c.from_residual.ensures.1
    (lift_from c.in-Some-strip.rest.now c.args.text.now e c.in-Some-strip.ensures c.in_err-from.ensures.stopped)

pub returns-in_err-to-clause-stopped : goal.returns-in_err-to-clause-stopped
returns-in_err-to-clause-stopped c =
    let e = c.in_err-to.field-0.0 in
    at_exit (IsStop IsEnding BeginsEnding c.args.text.now) c.from_residual-in_err-to.result e c.from_residual-in_err-to.ensures.1
    (lift_to c.in_ok-from.from c.in_ok-from.rest.now c.args.text.now e c.in_ok-from.ensures.read.0 (c.in-Some-strip.ensures ∙ ap (λ t. 32 ∷ t) c.in_ok-from.ensures.read.1) c.in_err-to.ensures.stopped)
