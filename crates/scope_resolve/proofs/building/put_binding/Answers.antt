use Rattle.std.proofs.Common.{◌∙◌, ◌++◌, ◌∷◌, [], append-nil, map, sym, ap, ℕ, List}
use Rattle.mrs_model.specs.declared.Role.{Role}
use Rattle.mrs_model.specs.Views.{argument_of, predication_of}
use Rattle.scope_model.specs.declared.Binding.{Binding}
use Rattle.scope_resolve.specs.Inner.Building.{has_number}
use Rattle.scope_resolve.proofs.Rows.{binding_own, binding_none, binding_one, binding_at}
use Rattle.scope_resolve.proofs.building.put_binding.Goals as goal

pub returns-then-is_own : goal.returns-then-is_own
returns-then-is_own c =
    sym (ap (λ (bs : List Binding). c.args.out.now.items ++ bs) (binding_own c.args.numbers.now c.args.quantifier c.args.x c.args.is_own (predication_of c.args.ep.now) c.if-is_own.true) ∙ append-nil c.args.out.now.items)

pub returns-then-not-has_number : goal.returns-then-not-has_number
returns-then-not-has_number c =
    let h = sym (c.has_number.ensures ∙ ap (λ (rs : List Role). has_number c.args.numbers.now c.args.x (map argument_of rs)) c.deref.ensures.value) ∙ c.if-not-has_number.true in
    sym (ap (λ (bs : List Binding). c.args.out.now.items ++ bs) (binding_none c.args.numbers.now c.args.quantifier c.args.x c.args.is_own (predication_of c.args.ep.now) c.if-is_own.false h) ∙ append-nil c.args.out.now.items)

pub returns : goal.returns
returns c =
    let h = sym (c.has_number.ensures ∙ ap (λ (rs : List Role). has_number c.args.numbers.now c.args.x (map argument_of rs)) c.deref.ensures.value) ∙ c.if-not-has_number.false in
    c.in_ok-push.ensures.items ∙ (ap (λ (n : ℕ). c.args.out.now.items ++ binding_at c.args.quantifier n ∷ []) c.number_at-label.ensures
    ∙ sym (ap (λ (bs : List Binding). c.args.out.now.items ++ bs) (binding_one c.args.numbers.now c.args.quantifier c.args.x c.args.is_own (predication_of c.args.ep.now) c.if-is_own.false h)))
