use Rattle.std.proofs.Common.{sym, subst}
use Rattle.chart_model.specs.At.{At}
use Rattle.lexical_items.proofs.Treed.{placed}
use Rattle.lexical_items.proofs.Harmless.{harmless_next, below}
use Rattle.lexical_items.proofs.feeding.forbid_after.Goals as goal

pub may_follow-requires-clause-inner : goal.may_follow-requires-clause-inner
may_follow-requires-clause-inner g c =
    let rules = g.F.LexicalFulls.rules_of c.args.fulls.now in
    (c.args.inner, subst (At rules c.args.inner) (sym c.rule_place-place.ensures) (placed rules c.args.inner c.requires.inner))

pub may_follow-requires-clause-outer : goal.may_follow-requires-clause-outer
may_follow-requires-clause-outer g c =
    let rules = g.F.LexicalFulls.rules_of c.args.fulls.now in
    (c.loop-outer.outer, subst (At rules c.loop-outer.outer) (sym c.rule_place-next.ensures) (placed rules c.loop-outer.outer (below (g.F.LexicalFulls.rules_of c.args.fulls.now) c.requires.count c.loop-outer-test.true)))

pub loop-outer-preserved : goal.loop-outer-preserved
loop-outer-preserved g c =
    harmless_next (g.F.LexicalFulls.signs c.args.fulls.now) (g.F.LexicalFulls.rules_of c.args.fulls.now) c.args.inner c.loop-outer.outer c.rule_place-place.result c.rule_place-next.result c.in_ok-yes.yes c.loop-outer.feeds c.note.new.feeds
    c.loop-outer.invariant c.requires.inner (below (g.F.LexicalFulls.rules_of c.args.fulls.now) c.requires.count c.loop-outer-test.true) c.rule_place-place.ensures c.rule_place-next.ensures c.in_ok-yes.ensures c.note.ensures
