use Rattle.std.proofs.Common.{ap, sym, ◌∙◌, arith, ◌≤◌, length}
use Rattle.std.proofs.lemmas.Bool.{le-ltb}
use Rattle.chart_model.specs.Chart.{all_free}
use Rattle.chart_core.specs.Kept.{core_of, rows_in}
use Rattle.chart_core.specs.View.{into_of, one_of}
use Rattle.packed_forests.proofs.Finding.{none_is, live_one, live_none}
use Rattle.packed_forests.proofs.counting.is_live.Goals as goal

pub returns-then-id-rows : goal.returns-then-id-rows
returns-then-id-rows g c =
    let rows = rows_in (core_of c.args.finished.now) in
    none_is c.is_none.result c.row.result.now.into c.is_none.ensures ∙ live_one rows c.in-Some.id.0 c.row.result.now c.row.ensures ∙ ap (λ o. all_free (into_of rows) (one_of o)) (sym c.in-Some.is)

pub returns-else-id-rows : goal.returns-else-id-rows
returns-else-id-rows g c =
    let rows = rows_in (core_of c.args.finished.now) in
    let high : length rows ≤ c.in-Some.id.0 = omega (arith, c.rows.ensures, c.if-id-rows.false) in
    le-ltb c.in-Some.id.0 c.rows.result c.if-id-rows.false ∙ live_none rows c.in-Some.id.0 high ∙ ap (λ o. all_free (into_of rows) (one_of o)) (sym c.in-Some.is)
