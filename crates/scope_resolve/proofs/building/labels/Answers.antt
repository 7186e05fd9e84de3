use Rattle.std.proofs.Common.{◌∙◌, ◌∷◌, ◌++◌, [], map, ap, ℕ, List}
use Rattle.mrs_model.specs.declared.Ep.{Ep}
use Rattle.mrs_model.specs.Views.{predication_of}
use Rattle.scope_resolve.specs.Inner.Building.{label_from}
use Rattle.scope_resolve.proofs.Rows.{map_next, all_rows}
use Rattle.scope_resolve.proofs.building.labels.Goals as goal

pub loop-ep-preserved : goal.loop-ep-preserved
loop-ep-preserved c =
    map_next predication_of (label_from c.args.numbers.now) c.args.eps.now c.loop-ep.ep-index c.ep-item.result c.loop-ep.out.items _ c.loop-ep-test.true c.ep-item.is c.loop-ep.invariant
    (c.in_ok-push.ensures.items ∙ ap (λ (n : ℕ). c.loop-ep.out.items ++ n ∷ []) c.number_at-label.ensures)

pub returns : goal.returns
returns c = c.loop-ep.invariant ∙ all_rows (λ (es : List Ep). map (label_from c.args.numbers.now) (map predication_of es)) c.args.eps.now c.loop-ep.ep-index c.loop-ep-test.false
