use Rattle.std.proofs.Common.{◌≡◌, true, false, slice_index_or, sym, ◌∙◌, subst}
use Rattle.std.proofs.lemmas.Bool.{eqb-true}
use Rattle.type_hierarchy.specs.Table.{is_below}
use Rattle.fs_closing.specs.Rules.{no_rule}
use Rattle.fs_unify.proofs.OwedRows.{paid_by}
use Rattle.fs_unify.proofs.owed.is_paid_by.Goals as goal

pub returns-then-is_none : goal.returns-then-is_none
returns-then-is_none c = λ e.
    paid_by (λ d. d.now) c.known.result c.is_none.result c.args.system.now c.args.debts.now c.args.by c.args.rule c.known.ensures c.is_none.ensures
    (λ _. eqb-true c.args.by c.args.rule e) (λ f. absurd (let z : true ≡ false = sym c.if-is_none.true ∙ f in cc))

pub returns : goal.returns
returns c = λ e.
    let g = c.args.system.now in
    let below : is_below g.types (slice_index_or g.rules c.args.by no_rule).ty (slice_index_or g.rules c.args.rule no_rule).ty ≡ true =
    subst (λ x. is_below g.types x (slice_index_or g.rules c.args.rule no_rule).ty ≡ true) c.rule_type.ensures.value
    (subst (λ x. is_below g.types c.rule_type.result x ≡ true) c.rule_type-2.ensures.value
    (subst (λ t. is_below t c.rule_type.result c.rule_type-2.result ≡ true) c.types.ensures (sym c.at_or_below.ensures ∙ e))) in
    paid_by (λ d. d.now) c.known.result c.is_none.result g c.args.debts.now c.args.by c.args.rule c.known.ensures c.is_none.ensures
    (λ t. absurd (let z : true ≡ false = sym t ∙ c.if-is_none.false in cc)) (λ _. below)
