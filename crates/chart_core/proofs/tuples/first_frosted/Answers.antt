use Rattle.std.proofs.Common.{◌<◌, length, ℕ, []}
use Rattle.chart_model.specs.Tuples.{on_list}
use Rattle.chart_core.specs.View.{number_of}
use Rattle.chart_core.proofs.Frosted.{all_first, all_rest}
use Rattle.chart_core.proofs.tuples.first_frosted.Goals as goal

pub frosted-requires : goal.frosted-requires
frosted-requires g c =
    let d = c.args.daughters.now in
    all_first (λ x. x < length c.args.rows.now) (number_of d.a) (on_list (number_of d.b) (on_list (number_of d.c) (on_list (number_of d.d) []))) c.requires

pub frosted-requires-2 : goal.frosted-requires-2
frosted-requires-2 g c =
    let d = c.args.daughters.now in
    let P : ℕ → Type 0 = λ x. x < length c.args.rows.now in
    all_first P (number_of d.b) (on_list (number_of d.c) (on_list (number_of d.d) [])) (all_rest P (number_of d.a) (on_list (number_of d.b) (on_list (number_of d.c) (on_list (number_of d.d) []))) c.requires)

pub frosted-requires-3 : goal.frosted-requires-3
frosted-requires-3 g c =
    let d = c.args.daughters.now in
    let P : ℕ → Type 0 = λ x. x < length c.args.rows.now in
    all_first P (number_of d.c) (on_list (number_of d.d) []) (all_rest P (number_of d.b) (on_list (number_of d.c) (on_list (number_of d.d) [])) (all_rest P (number_of d.a) (on_list (number_of d.b) (on_list (number_of d.c) (on_list (number_of d.d) []))) c.requires))

pub frosted-requires-4 : goal.frosted-requires-4
frosted-requires-4 g c =
    let d = c.args.daughters.now in
    let P : ℕ → Type 0 = λ x. x < length c.args.rows.now in
    all_rest P (number_of d.c) (on_list (number_of d.d) []) (all_rest P (number_of d.b) (on_list (number_of d.c) (on_list (number_of d.d) [])) (all_rest P (number_of d.a) (on_list (number_of d.b) (on_list (number_of d.c) (on_list (number_of d.d) []))) c.requires))
