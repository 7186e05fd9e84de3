use Rattle.std.proofs.Common.{Err, ap}
use Rattle.transfer_rules.specs.declared.fault.Refusal.TheVariants.{Form}
use Rattle.transfer_rules.specs.Features.{IsFeature}
use Rattle.transfer_rules.specs.Inner.Drafts.{draft_of, names_seen}
use Rattle.transfer_rules.specs.Inner.Views.{feature_of}
use Rattle.transfer_rules.proofs.Stepping.{taken_more}
use Rattle.transfer_rules.proofs.Taking.{all_at, err_back}
use Rattle.transfer_rules.proofs.elements.taken.Goals as goal

pub returns-in_err-take-clause-none : goal.returns-in_err-take-clause-none
returns-in_err-take-clause-none c = λ e h. c.in_err-take.ensures.none (ap Err (err_back c.from_residual.result c.in_err-take.field-0.0 Form c.from_residual.ensures.1 e))
    (all_at IsFeature feature_of c.args.features.now c.loop-feature.feature-index c.feature-item.result c.loop-feature-test.true c.feature-item.is h)

pub loop-feature-preserved : goal.loop-feature-preserved
loop-feature-preserved c = taken_more c.args.features.now c.loop-feature.feature-index c.feature-item.result (names_seen c.args.names.now) (names_seen c.loop-feature.names) (names_seen c.take.new.names)
    (draft_of c.loop-feature.draft) (draft_of c.take.new.self) c.loop-feature-test.true c.feature-item.is c.requires c.loop-feature.invariant c.in_ok-take.ensures.some c.in_ok-take.ensures.names c.in_ok-take.ensures.form
