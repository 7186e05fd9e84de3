use Rattle.std.proofs.Common.{subst}
use Rattle.lexical_items.specs.Known.{IsOfEntry}
use Rattle.lexical_items.proofs.Sames.{entry_known}
use Rattle.lexical_items.proofs.remembered.RememberedFullsLexicalFulls.entry.Goals as goal

pub keep_entry-requires : goal.keep_entry-requires
keep_entry-requires g c =
    subst (λ l. IsOfEntry (g.L.LexicalFulls.signs l) (g.L.LexicalFulls.value l) c.args.place c.in_ok-full.full) c.self.view_is c.in_ok-full.ensures

pub returns-in-Some : goal.returns-in-Some
returns-in-Some g c =
    let s = c.self.inside in
    entry_known g.L.LexicalFulls.signs g.L.LexicalFulls.value c.args.place s.entries.fulls s.fulls c.args.self.now c.in-Some.known.now c.in_ok-told.told
    c.self.invariant.0 c.self.view_is c.in_ok-told.ensures c.in-Some.ensures

pub returns : goal.returns
returns g c =
    subst (λ l. IsOfEntry (g.L.LexicalFulls.signs l) (g.L.LexicalFulls.value l) c.args.place c.in_ok-full.full) c.self.view_is c.in_ok-full.ensures
