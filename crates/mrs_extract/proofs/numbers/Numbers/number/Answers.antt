use Rattle.std.proofs.Common.{◌≡◌, length, rules, sym, subst}
use Rattle.mrs_extract.specs.Inner.Made.{AreSlots}
use Rattle.mrs_extract.specs.Extraction.{Is}
use Rattle.std.proofs.Common.{set}
use Rattle.mrs_extract.proofs.Numbering.{noted_old, slots_more, is_last}
use Rattle.mrs_extract.proofs.numbers.Numbers.number.Goals as goal

pub returns-in-Some-clause-noted : goal.returns-in-Some-clause-noted
returns-in-Some-clause-noted c = sym (noted_old _ c.args.n.0 c.in-Some.known c.in-Some.ensures)

pub invariant_of-self-2 : goal.invariant_of-self-2
invariant_of-self-2 c =
    let k : c.in-Ok.at ≡ length c.self.inside.nodes.items = search rules in
    subst (λ ns. AreSlots ns (set c.self.inside.slots.items c.args.n.0 c.in-Ok.at)) (sym c.in_ok-push.ensures.items)
    (slots_more _ _ _ c.args.n.0 c.in-Ok.at k c.self.view_is c.self.invariant c.requires c.in_default.ensures)

pub returns-clause-is : goal.returns-clause-is
returns-clause-is c =
    let k : c.in-Ok.at ≡ length c.self.inside.nodes.items = search rules in
    subst (λ ns. Is ns c.args.n.0 c.in-Ok.at) (sym c.in_ok-push.ensures.items) (is_last _ c.args.n.0 c.in-Ok.at k)
