use Rattle.std.proofs.Common.{◌≡◌, ap, sym, ◌∙◌, subst}
use Rattle.chart_model.specs.Tables.{arity_at}
use Rattle.chart_model.specs.inner.Begun.{starts_within}
use Rattle.chart_model.specs.Tuples.{shapes_of}
use Rattle.chart_model.proofs.TableLemmas.{get_here, mother_here, none_here}
use Rattle.chart_model.proofs.table.TableShapesShapes.apply.Goals as goal

pub returns-then-fits_limits-clause-mother : goal.returns-then-fits_limits-clause-mother
returns-then-fits_limits-clause-mother c =
    let rules = c.args.self.now.rules.items in
    let row = c.index-row.result.now in
    let whole = c.requires.whole ∙ ap arity_at (get_here rules c.args.rule row c.requires.parts.rule_is c.index-row.ensures) in
    mother_here rules c.args.rule row c.args.parts.now c.requires.parts.rule_is c.index-row.ensures c.requires.parts.tuple whole (subst (λ ls. starts_within ls (shapes_of c.args.parts.now) ≡ _) c.deref.ensures.value (sym c.fits_limits.ensures ∙ c.if-fits_limits.true))

pub returns-else-fits_limits-clause-mother : goal.returns-else-fits_limits-clause-mother
returns-else-fits_limits-clause-mother c =
    let rules = c.args.self.now.rules.items in
    let row = c.index-row.result.now in
    let whole = c.requires.whole ∙ ap arity_at (get_here rules c.args.rule row c.requires.parts.rule_is c.index-row.ensures) in
    none_here rules c.args.rule row c.args.parts.now c.requires.parts.rule_is c.index-row.ensures c.requires.parts.tuple whole (subst (λ ls. starts_within ls (shapes_of c.args.parts.now) ≡ _) c.deref.ensures.value (sym c.fits_limits.ensures ∙ c.if-fits_limits.false))
