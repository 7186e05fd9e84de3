use Rattle.std.proofs.Common.{◌≡◌, ◌∙◌, List, get_or, sym, subst, arith}
use Rattle.transfer_model.specs.declared.Element.{Element as DeclaredElement}
use Rattle.mrs_transfer.proofs.Absent.{absent_at}
use Rattle.mrs_transfer.proofs.present.Present.may_match.Goals as goal

pub returns-then-not-may_have : goal.returns-then-not-may_have
returns-then-not-may_have c =
    let x = c.element-item.result in
    let i = c.loop-element.element-index in
    let is : x ≡ get_or c.args.rule.now.elements.items i x = subst (λ (es : List DeclaredElement). x ≡ get_or es i x) c.deref-element-items.ensures.value c.element-item.is in
    absent_at c.args.self.now.places.items c.args.rule.now i x (omega arith) is (sym c.may_have.ensures ∙ c.if-not-may_have.true)
