use Rattle.std.proofs.Common.{sym, subst, arith}
use Rattle.chart_model.specs.At.{At}
use Rattle.lexical_items.proofs.Treed.{placed}
use Rattle.lexical_items.proofs.Outwards.{begun}
use Rattle.lexical_items.proofs.making.FullChainsMaker.begin.Goals as goal

pub entry-requires : goal.entry-requires
entry-requires g c =
    let entries = g.F.LexicalFulls.entries_of c.args.self.now.fulls.now in
    (c.args.entry, subst (At entries c.args.entry) (sym c.entry_place-place.ensures) (placed entries c.args.entry (grind arith)))

pub returns-in-Ok : goal.returns-in-Ok
returns-in-Ok g c =
    let fulls = c.args.self.now.fulls.now in
    begun (g.F.LexicalFulls.signs fulls) (g.F.LexicalFulls.entries_of fulls) (g.F.LexicalFulls.rules_of fulls) c.args.self.now.feeds.now (g.F.LexicalFulls.value fulls) c.in-Ok.full c.args.entry c.entry_place-place.result c.entry_place-place.ensures (grind arith) c.in-Ok.ensures
