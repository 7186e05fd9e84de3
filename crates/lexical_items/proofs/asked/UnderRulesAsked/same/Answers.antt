use Rattle.std.proofs.Common.{subst}
use Rattle.lexical_items.specs.Known.{IsUnder}
use Rattle.lexical_items.proofs.asked.UnderRulesAsked.same.Goals as goal

pub returns : goal.returns
returns g c = λ yes number told h.
    let l = c.args.self.now.fulls in
    subst (λ d. IsUnder (g.L.LexicalFulls.signs l) (g.L.LexicalFulls.value l) number d told) (c.same.ensures yes) h
