use Rattle.std.proofs.Common.{◌∙◌, ◌++◌, map, ap₂, ℕ, List}
use Rattle.std.specs.List.{flat_map}
use Rattle.mrs_model.specs.declared.Ep.{Ep}
use Rattle.mrs_model.specs.declared.Role.{Role}
use Rattle.mrs_model.specs.Views.{variable_of, argument_of, predication_of}
use Rattle.scope_resolve.specs.Inner.Building.{openings_with, openings_from}
use Rattle.scope_resolve.proofs.Rows.{flat_first, all_rows}
use Rattle.scope_resolve.proofs.building.openings.Goals as goal

pub loop-ep-preserved : goal.loop-ep-preserved
loop-ep-preserved c =
    let vars = map variable_of c.args.vars.now in
    let ns = c.args.numbers.now in
    flat_first predication_of (openings_from vars ns) c.args.eps.now c.loop-ep.ep-index c.ep-item.result c.loop-ep.out.items _ c.loop-ep-test.true c.ep-item.is c.loop-ep.invariant
    (c.in_ok-put_openings.ensures ∙ ap₂ (λ (n : ℕ) (rs : List Role). c.loop-ep.out.items ++ openings_with vars ns n (map argument_of rs)) c.number_at-label.ensures c.deref.ensures.value)

pub returns : goal.returns
returns c = c.loop-ep.invariant ∙ all_rows (λ (es : List Ep). flat_map (openings_from (map variable_of c.args.vars.now) c.args.numbers.now) (map predication_of es)) c.args.eps.now c.loop-ep.ep-index c.loop-ep-test.false
