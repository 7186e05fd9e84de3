use Rattle.std.proofs.Common.{◌≡◌, ◌∙◌, List, ℕ, None, Some, Option, refl, sym, ap, subst}
use Rattle.std.specs.Option.{option_map}
use Rattle.lexicon.proofs.WordLemmas.{true_not_false}
use Rattle.closed_lists.specs.Names.{names_of}
use Rattle.closed_lists.specs.Lists.{IsAtOrBelow}
use Rattle.closed_lists.proofs.ListLemmas.{no_cell, no_first, no_rest}
use Rattle.closed_lists.proofs.lists.step_at.Goals as goal

pub returns-then-not-is_at_or_below : goal.returns-then-not-is_at_or_below
returns-then-not-is_at_or_below c = λ es e.
    let types = c.args.types.now in
    let names = names_of c.args.names.now in
    no_cell types names c.args.graph.now c.args.n.0 es
    (λ h. true_not_false c.is_at_or_below.result (c.is_at_or_below.ensures.1 (subst (λ t. IsAtOrBelow types t names.null) (sym c.ty-ty.ensures) h)) c.if-is_at_or_below.false)
    (λ h. true_not_false c.is_at_or_below-2.result (c.is_at_or_below-2.ensures.1 (subst (λ t. IsAtOrBelow types t names.cons) (sym c.ty-ty.ensures) h)) c.if-not-is_at_or_below.true) e

pub returns-in_default : goal.returns-in_default
returns-in_default c = λ es e.
    let types = c.args.types.now in
    let names = names_of c.args.names.now in
    no_first types names c.args.graph.now c.args.n.0 es
    (λ h. true_not_false c.is_at_or_below.result (c.is_at_or_below.ensures.1 (subst (λ t. IsAtOrBelow types t names.null) (sym c.ty-ty.ensures) h)) c.if-is_at_or_below.false)
    (sym c.in_default.ensures) e

pub returns-in_default-arc_named : goal.returns-in_default-arc_named
returns-in_default-arc_named c = λ es e.
    let types = c.args.types.now in
    let names = names_of c.args.names.now in
    no_rest types names c.args.graph.now c.args.n.0 es
    (λ h. true_not_false c.is_at_or_below.result (c.is_at_or_below.ensures.1 (subst (λ t. IsAtOrBelow types t names.null) (sym c.ty-ty.ensures) h)) c.if-is_at_or_below.false)
    (sym c.in_default-arc_named.ensures) e
