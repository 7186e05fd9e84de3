use Rattle.std.proofs.Common.{refl, subst}
use Rattle.lexical_items.specs.Known.{IsUnder}
use Rattle.lexical_items.proofs.Sames.{under_known}
use Rattle.lexical_items.proofs.remembered.RememberedFullsLexicalFulls.under.Goals as goal

pub keep_made-requires : goal.keep_made-requires
keep_made-requires g c =
    subst (λ l. IsUnder (g.L.LexicalFulls.signs l) (g.L.LexicalFulls.value l) c.args.place (g.L.LexicalFulls.value l c.args.full.now) c.in_ok-made.made) c.self.view_is c.in_ok-made.ensures

pub returns-in-Some : goal.returns-in-Some
returns-in-Some g c =
    let s = c.self.inside in
    under_known g.L.LexicalFulls.signs g.L.LexicalFulls.value c.args.place s.made.fulls s.fulls c.args.self.now c.args.full.now c.args.full.now c.in-Some.known.now c.in_ok-told.told
    c.self.invariant.1 c.self.view_is refl c.in_ok-told.ensures c.in-Some.ensures

pub returns : goal.returns
returns g c =
    subst (λ l. IsUnder (g.L.LexicalFulls.signs l) (g.L.LexicalFulls.value l) c.args.place (g.L.LexicalFulls.value l c.args.full.now) c.in_ok-made.made) c.self.view_is c.in_ok-made.ensures
