use Rattle.lexical_items.proofs.Outwards.{one_made, inner_made}
use Rattle.lexical_items.proofs.making.FullChainsMaker.laws.Goals as goal

pub returns-clause-one : goal.returns-clause-one
returns-clause-one g c =
    let fulls = c.args.self.now.fulls.now in
    one_made (g.F.LexicalFulls.signs fulls) (g.F.LexicalFulls.entries_of fulls) (g.F.LexicalFulls.rules_of fulls) c.args.self.now.feeds.now c.laws.ensures.order

pub returns-clause-inner : goal.returns-clause-inner
returns-clause-inner g c =
    let fulls = c.args.self.now.fulls.now in
    inner_made (g.F.LexicalFulls.signs fulls) (g.F.LexicalFulls.entries_of fulls) (g.F.LexicalFulls.rules_of fulls) c.args.self.now.feeds.now c.laws.ensures.order
