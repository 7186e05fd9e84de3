use Rattle.std.proofs.Common.{◌∙◌, sym, codes}
use Rattle.transfer_rules.proofs.Partly.{same_text, input_named, context_named, filter_named}
use Rattle.transfer_rules.proofs.parts.is_part_name.Goals.{then-eq, else-eq, then-eq-2, else-eq-2}
use Rattle.transfer_rules.proofs.parts.is_part_name.Goals as goal

pub returns-then-eq-3 : goal.returns-then-eq-3
returns-then-eq-3 c = (
  λ _. elim c.if-eq-2.branch [
    | then-eq-2 w ↦ (elim c.if-eq.branch [
      | then-eq v ↦ input_named c.args.name.now (same_text c.args.name.now (codes "input") c.eq.result c.eq.ensures v.if-eq.true)
      | else-eq v ↦ context_named c.args.name.now (same_text c.args.name.now (codes "context") v.eq-else-eq.result v.eq-else-eq.ensures (sym v.value-is ∙ w.if-eq-2.true))
    ])
    | else-eq-2 w ↦ filter_named c.args.name.now (same_text c.args.name.now (codes "filter") w.eq-else-eq-2.result w.eq-else-eq-2.ensures (sym w.value-is ∙ c.if-eq-3.true))
  ],
  λ _. c.if-eq-3.true,
)
