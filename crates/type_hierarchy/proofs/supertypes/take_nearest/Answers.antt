use Rattle.std.proofs.Common.{◌∙◌, true, refl, sym}
use Rattle.type_hierarchy.specs.Bits.{has_bit}
use Rattle.type_hierarchy.specs.Table.{completed_count}
use Rattle.type_hierarchy.specs.Inner.Nearest.{is_taken}
use Rattle.type_hierarchy.proofs.SetLemmas.{or_right}
use Rattle.type_hierarchy.proofs.SupertypeLemmas.{strictly}
use Rattle.type_hierarchy.proofs.NearestLemmas.{mark_kept}
use Rattle.type_hierarchy.proofs.supertypes.take_nearest.Goals as goal

pub returns-then-at_or_below-clause-taken : goal.returns-then-at_or_below-clause-taken
returns-then-at_or_below-clause-taken c =
    let here = c.mark.ensures.has ∙ or_right (has_bit c.args.nearest.now.items c.args.x) true refl in
    is_taken (strictly c.args.types.now c.args.t c.args.x (λ e. c.if-x-t.true (sym e)) (sym c.at_or_below.ensures ∙ c.if-at_or_below.true)) here
    (mark_kept c.args.nearest.now.items c.mark.new.row.items c.args.x here c.mark.ensures.others) c.pass_above.ensures.passed

pub returns-then-at_or_below-clause-nearest_row : goal.returns-then-at_or_below-clause-nearest_row
returns-then-at_or_below-clause-nearest_row c = c.mark.ensures.row (completed_count c.args.types.now) c.requires.x_in c.requires.nearest_row
