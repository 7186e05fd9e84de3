use Rattle.std.proofs.Common.{map}
use Rattle.lexical_items.specs.Inner.Routes.{route_seen}
use Rattle.lexical_items.proofs.Levels.{above_start, above_next}
use Rattle.lexical_items.proofs.routes.add_longer.Goals as goal

pub loop-rule-init : goal.loop-rule-init
loop-rule-init g c =
    let fulls = c.args.grammar.now.fulls.now in
    above_start c.args.grammar.now.lexicon.now c.args.grammar.now.spelling.now (g.F.LexicalFulls.signs fulls) (g.F.LexicalFulls.entries_of fulls) (g.F.LexicalFulls.rules_of fulls) c.requires.grammar.numbered (route_seen (g.F.LexicalFulls.value fulls) c.args.route.now) (map (route_seen (g.F.LexicalFulls.value fulls)) c.args.out.now.items)

pub loop-rule-preserved : goal.loop-rule-preserved
loop-rule-preserved g c =
    let fulls = c.args.grammar.now.fulls.now in
    above_next c.args.grammar.now.lexicon.now c.args.grammar.now.spelling.now (g.F.LexicalFulls.signs fulls) (g.F.LexicalFulls.entries_of fulls) (g.F.LexicalFulls.rules_of fulls) c.requires.grammar.numbered (g.F.LexicalFulls.value fulls) (route_seen (g.F.LexicalFulls.value fulls) c.args.route.now) c.loop-rule.rule c.in_ok-next.next
    (map (route_seen (g.F.LexicalFulls.value fulls)) c.args.out.now.items) c.loop-rule.out.items c.add.new.out.items c.in_ok-add.ensures c.in_ok-next.ensures c.loop-rule.invariant
