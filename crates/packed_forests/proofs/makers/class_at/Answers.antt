use Rattle.std.specs.Prelude.{◌≡◌, ◌<◌, true, false, is_some, is_none, length, refl}
use Rattle.std.specs.List.{filter}
use Rattle.std.proofs.Common.{ap, sym, ◌∙◌, subst}
use Rattle.chart_model.specs.At.{At}
use Rattle.chart_core.specs.Kept.{core_of, rows_in}
use Rattle.chart_core.specs.Lists.{slot}
use Rattle.chart_core.proofs.Found.{all_at}
use Rattle.packed_forests.specs.Inner.Found.{lists_in}
use Rattle.packed_forests.specs.Inner.Told.{makes}
use Rattle.packed_forests.proofs.Finding.{none_is}
use Rattle.packed_forests.proofs.Making.{never_packed, never_shapeless, live_at, are_makers}
use Rattle.packed_forests.proofs.makers.class_at.Goals as goal

pub returns-then-is_some : goal.returns-then-is_some
returns-then-is_some g c =
    let host = c.row-host.result.now in
    let e : is_some host.into ≡ true = (let p = c.is_some.ensures in let q = c.if-is_some.true in cc) in
    never_packed (g.S.Shapes.calculus c.args.shapes.now) (g.met.S.Shapes.laws c.args.shapes.now) (g.S.Shapes.meaning c.args.shapes.now) (core_of c.args.finished.now) c.args.row.0 host c.row-host.ensures e

pub returns-then-is_none : goal.returns-then-is_none
returns-then-is_none g c =
    let host = c.row-host.result.now in
    let e : is_none host.shape ≡ true = sym (none_is c.is_none.result host.shape c.is_none.ensures) ∙ c.if-is_none.true in
    never_shapeless (g.S.Shapes.calculus c.args.shapes.now) (g.met.S.Shapes.laws c.args.shapes.now) (g.S.Shapes.meaning c.args.shapes.now) (core_of c.args.finished.now) c.args.row.0 host c.row-host.ensures e

pub makers_among-requires-clause-places : goal.makers_among-requires-clause-places
makers_among-requires-clause-places g c =
    all_at (λ p. p < length (rows_in (core_of c.args.finished.now))) c.at-places.result.now
    (λ n p a. c.requires.found.all.inside (slot (lists_in c.args.index.now) c.cell.result) n p (subst (λ xs. At xs n p) c.at-places.ensures a))

pub returns : goal.returns
returns g c =
    let k = g.S.Shapes.calculus c.args.shapes.now in
    let meaning = g.S.Shapes.meaning c.args.shapes.now in
    let laws = g.met.S.Shapes.laws c.args.shapes.now in
    let core = core_of c.args.finished.now in
    let host = c.row-host.result.now in
    let packed : is_some host.into ≡ false = (let p = c.is_some.ensures in let q = c.if-is_some.false in cc) in
    let shaped : is_none host.shape ≡ false = sym (none_is c.is_none.result host.shape c.is_none.ensures) ∙ c.if-is_none.false in (
      refl,
      live_at k laws meaning core c.args.row.0 host c.row-host.ensures packed shaped,
      are_makers k laws meaning core g.S.Cover.Cover.cell_of (lists_in c.args.index.now) c.requires.found c.args.row.0 host c.row-host.ensures c.cell.result c.cell.ensures shaped _
          (c.in_ok-makers.ensures ∙ ap (filter (makes k meaning (rows_in core) c.args.row.0)) c.at-places.ensures),
    )
