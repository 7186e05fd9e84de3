use Rattle.std.proofs.Common.{◌∙◌, Bool, cond, [], ◌∷◌, ◌++◌, sym, ap}
use Rattle.mrs_transfer.proofs.Placed.{has_is}
use Rattle.mrs_transfer.proofs.applying.push_left.Goals as goal

pub returns-in_ok-push : goal.returns-in_ok-push
returns-in_ok-push c =
    c.in_ok-push.ensures.items
    ∙ ap (λ (b : Bool). cond b c.args.backwards.now.items (c.args.backwards.now.items ++ c.args.ep ∷ [])) (sym c.if-not-contains.true ∙ (c.contains.ensures.value ∙ has_is c.args.gone.now c.args.place))

pub returns-else-not-contains : goal.returns-else-not-contains
returns-else-not-contains c =
    ap (λ (b : Bool). cond b c.args.backwards.now.items (c.args.backwards.now.items ++ c.args.ep ∷ [])) (sym c.if-not-contains.false ∙ (c.contains.ensures.value ∙ has_is c.args.gone.now c.args.place))
