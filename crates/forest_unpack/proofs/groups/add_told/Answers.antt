use Rattle.std.proofs.Common.{ap, sym, ◌∙◌, map, []}
use Rattle.chart_model.specs.Tuples.{on_list}
use Rattle.forest_unpack.specs.Plans.{row_of}
use Rattle.forest_unpack.proofs.Grouping.{gains_put, gains_nothing}
use Rattle.forest_unpack.proofs.groups.add_told.Goals as goal

pub returns-in_default : goal.returns-in_default
returns-in_default g c = gains_nothing (map row_of c.args.group.now.items) _ (ap (λ o. map row_of (on_list o [])) (sym c.in_default.is) ∙ c.in_ok-told.ensures)

pub returns : goal.returns
returns g c = gains_put c.args.group.now.items _ c.in-Some.told c.place_of-place.result _ (ap (λ o. map row_of (on_list o [])) (sym c.in-Some.is) ∙ c.in_ok-told.ensures) c.in_ok-insert.ensures.items
