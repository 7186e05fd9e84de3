use Rattle.std.proofs.Common.{◌≡◌, ◌∙◌, sym}
use Rattle.std.specs.String.{string_bytes}
use Rattle.std.proofs.lemmas.Bool.{false≢true, OnTrue_from, OnFalse_from}
use Rattle.std.proofs.lemmas.Slice.Eq.{bytes_eq-Decides}
use Rattle.mrs_reading.proofs.Agreeing.{found_same, found_other, none_here, none_at_all}
use Rattle.mrs_reading.proofs.table.agrees.Goals as goal

pub returns-then-eq-clause-same : goal.returns-then-eq-clause-same
returns-then-eq-clause-same c =
    let n : string_bytes c.prop-item.result.name ≡ c.args.name.now = sym c.as_str.ensures.value ∙ (bytes_eq-Decides c.as_str.result.now c.args.name.now).0 (sym c.eq.ensures ∙ c.if-eq.true) in
    OnTrue_from c.eq-then-eq.result _ (λ t. found_same c.args.props.now c.loop-prop.prop-index c.prop-item.result c.args.name.now c.args.value.now c.loop-prop-test.true c.prop-item.is n
    (sym c.as_str-then-eq.ensures.value ∙ (bytes_eq-Decides c.as_str-then-eq.result.now c.args.value.now).0 (sym c.eq-then-eq.ensures ∙ t)))

pub returns-then-eq-clause-other : goal.returns-then-eq-clause-other
returns-then-eq-clause-other c =
    let n : string_bytes c.prop-item.result.name ≡ c.args.name.now = sym c.as_str.ensures.value ∙ (bytes_eq-Decides c.as_str.result.now c.args.name.now).0 (sym c.eq.ensures ∙ c.if-eq.true) in
    OnFalse_from c.eq-then-eq.result _ (λ f. found_other c.args.props.now c.loop-prop.prop-index c.prop-item.result c.args.name.now c.args.value.now c.loop-prop-test.true c.prop-item.is n
    (λ e. false≢true (sym f ∙ c.eq-then-eq.ensures ∙ (bytes_eq-Decides c.as_str-then-eq.result.now c.args.value.now).1 (c.as_str-then-eq.ensures.value ∙ e))))

pub loop-prop-preserved : goal.loop-prop-preserved
loop-prop-preserved c =
    none_here c.args.props.now c.loop-prop.prop-index c.prop-item.result c.args.name.now c.loop-prop-test.true c.prop-item.is
    (λ e. false≢true (sym c.if-eq.false ∙ c.eq.ensures ∙ (bytes_eq-Decides c.as_str.result.now c.args.name.now).1 (c.as_str.ensures.value ∙ e))) c.loop-prop.invariant

pub returns-clause-absent : goal.returns-clause-absent
returns-clause-absent c = none_at_all c.args.props.now c.loop-prop.prop-index c.args.name.now c.loop-prop-test.false c.loop-prop.invariant
