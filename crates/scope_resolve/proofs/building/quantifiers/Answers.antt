use Rattle.std.proofs.Common.{◌∙◌, ◌++◌, map, ap, Option, List}
use Rattle.std.specs.List.{flat_map}
use Rattle.mrs_model.specs.declared.Ep.{Ep}
use Rattle.mrs_model.specs.Views.{variable_of, predication_of}
use Rattle.mrs_model.specs.Meanings.{Predication}
use Rattle.scope_model.specs.declared.Quantifier.{Quantifier}
use Rattle.scope_model.specs.Frames.{listed}
use Rattle.scope_resolve.specs.Inner.Building.{quantifier_from}
use Rattle.scope_resolve.proofs.Rows.{flat_first, all_rows}
use Rattle.scope_resolve.proofs.building.quantifiers.Goals as goal

pub loop-ep-preserved : goal.loop-ep-preserved
loop-ep-preserved c =
    flat_first predication_of (λ (e : Predication). listed (quantifier_from (map variable_of c.args.vars.now) c.args.numbers.now e)) c.args.eps.now c.loop-ep.ep-index c.ep-item.result c.loop-ep.out.items _ c.loop-ep-test.true c.ep-item.is c.loop-ep.invariant
    (c.in_ok-put_quantifier.ensures ∙ ap (λ (q : Option Quantifier). c.loop-ep.out.items ++ listed q) c.quantifier.ensures)

pub returns : goal.returns
returns c = c.loop-ep.invariant ∙ all_rows (λ (es : List Ep). flat_map (λ (e : Predication). listed (quantifier_from (map variable_of c.args.vars.now) c.args.numbers.now e)) (map predication_of es)) c.args.eps.now c.loop-ep.ep-index c.loop-ep-test.false
