use Rattle.std.proofs.Common.{◌∙◌, sym, ap}
use Rattle.type_hierarchy.specs.Table.{TypeTable, is_below}
use Rattle.forced_types.specs.Forced.{raised}
use Rattle.forced_types.proofs.nodes.Nodes.spread.Goals as goal

pub put_beside-requires-clause-forced : goal.put_beside-requires-clause-forced
put_beside-requires-clause-forced c =
    raised _ c.in-Some.ty c.args.above c.in-Some.ensures.forced
    (sym (ap (λ (x : TypeTable). is_below x c.in-Some.ty c.args.above) c.types-2.ensures) ∙ sym c.at_or_below.ensures ∙ c.if-not-at_or_below.false)
