use Rattle.std.proofs.Common.{◌≡◌, false, IfOk, subst}
use Rattle.tree_model.specs.Structures.{Structure}
use Rattle.tree_model.specs.Lexical.{IsUnderRule}
use Rattle.lexical_items.proofs.remembered.RememberedFullsLexicalFulls.may_follow.Goals as goal

pub returns : goal.returns
returns g c =
    subst (λ l. IfOk c.may_follow.result (λ yes. yes ≡ false → (d e f : Structure) → IsUnderRule (g.L.LexicalFulls.signs l) c.args.inner d e → IsUnderRule (g.L.LexicalFulls.signs l) c.args.outer e f → ⊥)) c.self.view_is c.may_follow.ensures
