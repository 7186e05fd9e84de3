use Rattle.std.proofs.Common.{◌<◌, length, ℕ, []}
use Rattle.chart_model.specs.Tuples.{on_list}
use Rattle.chart_core.specs.View.{number_of}
use Rattle.chart_core.specs.Copies.{IsWholeAt}
use Rattle.chart_core.proofs.Frosted.{all_first, all_rest}
use Rattle.chart_core.proofs.tuples.tuple_of.Goals as goal

pub part_of-requires-2-clause-in_range : goal.part_of-requires-2-clause-in_range
part_of-requires-2-clause-in_range g c =
    let d = c.args.daughters.now in
    let P : ℕ → Type 0 = λ x. x < length c.args.rows.now in
    all_first P (number_of d.b) (on_list (number_of d.c) (on_list (number_of d.d) [])) (all_rest P (number_of d.a) (on_list (number_of d.b) (on_list (number_of d.c) (on_list (number_of d.d) []))) c.requires.in_range)

pub part_of-requires-3-clause-in_range : goal.part_of-requires-3-clause-in_range
part_of-requires-3-clause-in_range g c =
    let d = c.args.daughters.now in
    let P : ℕ → Type 0 = λ x. x < length c.args.rows.now in
    all_first P (number_of d.c) (on_list (number_of d.d) []) (all_rest P (number_of d.b) (on_list (number_of d.c) (on_list (number_of d.d) [])) (all_rest P (number_of d.a) (on_list (number_of d.b) (on_list (number_of d.c) (on_list (number_of d.d) []))) c.requires.in_range))

pub part_of-requires-4-clause-in_range : goal.part_of-requires-4-clause-in_range
part_of-requires-4-clause-in_range g c =
    let d = c.args.daughters.now in
    let P : ℕ → Type 0 = λ x. x < length c.args.rows.now in
    (all_rest P (number_of d.c) (on_list (number_of d.d) []) (all_rest P (number_of d.b) (on_list (number_of d.c) (on_list (number_of d.d) [])) (all_rest P (number_of d.a) (on_list (number_of d.b) (on_list (number_of d.c) (on_list (number_of d.d) []))) c.requires.in_range)))

pub part_of-requires-2-clause-whole : goal.part_of-requires-2-clause-whole
part_of-requires-2-clause-whole g c =
    let d = c.args.daughters.now in
    let P : ℕ → Type 0 = IsWholeAt c.args.rows.now in
    all_first P (number_of d.b) (on_list (number_of d.c) (on_list (number_of d.d) [])) (all_rest P (number_of d.a) (on_list (number_of d.b) (on_list (number_of d.c) (on_list (number_of d.d) []))) c.requires.whole)

pub part_of-requires-3-clause-whole : goal.part_of-requires-3-clause-whole
part_of-requires-3-clause-whole g c =
    let d = c.args.daughters.now in
    let P : ℕ → Type 0 = IsWholeAt c.args.rows.now in
    all_first P (number_of d.c) (on_list (number_of d.d) []) (all_rest P (number_of d.b) (on_list (number_of d.c) (on_list (number_of d.d) [])) (all_rest P (number_of d.a) (on_list (number_of d.b) (on_list (number_of d.c) (on_list (number_of d.d) []))) c.requires.whole))

pub part_of-requires-4-clause-whole : goal.part_of-requires-4-clause-whole
part_of-requires-4-clause-whole g c =
    let d = c.args.daughters.now in
    let P : ℕ → Type 0 = IsWholeAt c.args.rows.now in
    (all_rest P (number_of d.c) (on_list (number_of d.d) []) (all_rest P (number_of d.b) (on_list (number_of d.c) (on_list (number_of d.d) [])) (all_rest P (number_of d.a) (on_list (number_of d.b) (on_list (number_of d.c) (on_list (number_of d.d) []))) c.requires.whole)))
