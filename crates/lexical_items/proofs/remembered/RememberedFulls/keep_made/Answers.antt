use Rattle.std.proofs.Common.{sym}
use Rattle.lexical_items.proofs.Sames.{under_known}
use Rattle.lexical_items.proofs.remembered.RememberedFulls.keep_made.Goals as goal

pub keep-requires : goal.keep-requires
keep-requires g c =
    let s = c.self.inside in
    under_known g.L.LexicalFulls.signs g.L.LexicalFulls.value c.args.place c.args.self.now s.fulls s.made.fulls c.args.full.now c.in_ok-key.key c.args.made.now c.in_ok-copy.copy
    (sym c.self.view_is) (sym c.self.invariant.1) c.in_ok-key.ensures c.in_ok-copy.ensures c.requires
