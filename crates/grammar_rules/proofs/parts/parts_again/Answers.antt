use Rattle.grammar_rules.proofs.Sames.{same_seen}
use Rattle.grammar_rules.proofs.parts.parts_again.Goals as goal

pub returns : goal.returns
returns k =
    same_seen k.args.signs.now
    (record { count = k.args.parts.now.count; a = k.in_ok-part_again.field-0; b = k.in_ok-part_again-2.field-0; c = k.in_ok-part_again-3.field-0; d = k.in_ok-part_again-4.field-0 })
    k.args.parts.now k.in_ok-part_again.ensures k.in_ok-part_again-2.ensures k.in_ok-part_again-3.ensures k.in_ok-part_again-4.ensures
