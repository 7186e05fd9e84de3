use Rattle.std.proofs.Common.{sym}
use Rattle.lexical_items.proofs.Sames.{entry_known}
use Rattle.lexical_items.proofs.remembered.RememberedFulls.keep_entry.Goals as goal

pub keep-requires : goal.keep-requires
keep-requires g c =
    let s = c.self.inside in
    entry_known g.L.LexicalFulls.signs g.L.LexicalFulls.value c.args.place c.args.self.now s.fulls s.entries.fulls c.args.full.now c.in_ok-copy.copy
    (sym c.self.view_is) (sym c.self.invariant.0) c.in_ok-copy.ensures c.requires
