use Rattle.std.proofs.Common.{◌∙◌, map, sym, subst, arith}
use Rattle.chart_model.specs.At.{At}
use Rattle.lexical_items.specs.Places.{place_in}
use Rattle.lexical_items.proofs.Treed.{placed}
use Rattle.lexical_items.proofs.Outwards.{gone_on, rule_out, forbidden}
use Rattle.lexical_items.proofs.making.FullChainsMaker.go_on.Goals as goal

pub under-requires-clause-place : goal.under-requires-clause-place
under-requires-clause-place g c =
    let rules = g.F.LexicalFulls.rules_of c.args.self.now.fulls.now in
    (c.args.rule, subst (At rules c.args.rule) (sym c.rule_place-place.ensures) (placed rules c.args.rule (grind arith)))

pub under-requires-clause-lexical : goal.under-requires-clause-lexical
under-requires-clause-lexical g c =
    let fulls = c.args.self.now.fulls.now in
    record { entry = place_in (g.F.LexicalFulls.entries_of fulls) c.args.entry; rules = map (place_in (g.F.LexicalFulls.rules_of fulls)) c.args.rules.now; full = c.requires.full }

pub returns-then-rule-rules : goal.returns-then-rule-rules
returns-then-rule-rules g c =
    let fulls = c.args.self.now.fulls.now in
    rule_out (g.F.LexicalFulls.signs fulls) (g.F.LexicalFulls.entries_of fulls) (g.F.LexicalFulls.rules_of fulls) c.args.self.now.feeds.now c.args.entry c.args.rules.now c.args.rule (grind arith)

pub returns-then-not-allows_after : goal.returns-then-not-allows_after
returns-then-not-allows_after g c =
    let fulls = c.args.self.now.fulls.now in
    forbidden (g.F.LexicalFulls.signs fulls) (g.F.LexicalFulls.entries_of fulls) (g.F.LexicalFulls.rules_of fulls) c.args.self.now.feeds.now c.args.entry c.args.rules.now c.args.rule (sym c.allows_after.ensures ∙ grind arith)

pub returns-in-Ok : goal.returns-in-Ok
returns-in-Ok g c =
    let fulls = c.args.self.now.fulls.now in
    gone_on (g.F.LexicalFulls.signs fulls) (g.F.LexicalFulls.entries_of fulls) (g.F.LexicalFulls.rules_of fulls) c.args.self.now.feeds.now (g.F.LexicalFulls.value fulls) c.in-Ok.full c.args.entry c.rule_place-place.result c.args.rules.now c.args.rule (g.F.LexicalFulls.value fulls c.args.made.now) c.laws.ensures.order c.rule_place-place.ensures (grind arith)
    (sym c.allows_after.ensures ∙ grind arith) c.requires c.in-Ok.ensures
