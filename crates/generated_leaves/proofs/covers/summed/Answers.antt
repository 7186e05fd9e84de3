use Rattle.std.proofs.Common.{◌≡◌, [], map}
use Rattle.chart_model.specs.Tuples.{on_list, covers_of}
use Rattle.generate_model.specs.Covers.{counts_next}
use Rattle.generated_leaves.proofs.SumLemmas.{sum_of, if_ok}
use Rattle.generated_leaves.proofs.covers.summed.Goals as goal

pub returns : goal.returns
returns g c =
    if_ok (λ o. o ≡ counts_next c.args.bound.now c.in_ok-sum-3.sum (map (λ x. x.cover) (on_list c.args.parts.now.d []))) (λ o. o ≡ counts_next c.args.bound.now c.args.own (covers_of c.args.parts.now)) c.added-4.result
    (λ d e. sum_of c.args.bound.now c.args.own c.args.parts.now c.in_ok-sum.sum c.in_ok-sum-2.sum c.in_ok-sum-3.sum d c.in_ok-sum.ensures c.in_ok-sum-2.ensures c.in_ok-sum-3.ensures e) c.added-4.ensures
