use Rattle.std.proofs.Common.{◌≡◌, true, false, arith, refl}
use Rattle.transfer_rules.proofs.Partly.{not_named, more_named, all_named}
use Rattle.transfer_rules.proofs.parts.are_part_names.Goals as goal

pub returns-then-not-is_part_name : goal.returns-then-not-is_part_name
returns-then-not-is_part_name c = (
  λ e. absurd (let f : false ≡ true = e in cc),
  λ all. absurd (not_named c.args.features.now c.loop-feature.feature-index c.feature-item.result c.is_part_name.result (omega arith) c.feature-item.is c.if-not-is_part_name.true c.is_part_name.ensures.1 all),
)

pub loop-feature-preserved : goal.loop-feature-preserved
loop-feature-preserved c =
    more_named c.args.features.now c.loop-feature.feature-index c.feature-item.result (omega arith) c.feature-item.is (c.is_part_name.ensures.0 c.if-not-is_part_name.false) c.loop-feature.invariant

pub returns : goal.returns
returns c = (λ _. all_named c.args.features.now c.loop-feature.feature-index (omega arith) c.loop-feature.invariant, λ _. refl)
