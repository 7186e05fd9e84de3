use Rattle.std.proofs.Common.{◌<◌, ◌^◌, subst, arith}
use Rattle.std.proofs.lemmas.Option.{slice_get_within, get_or_from_slice_get}
use Rattle.profile_batch.specs.Views.{trees_of}
use Rattle.profile_batch.proofs.turns.judge_all.Goals as goal

pub each_by-drawn-requires-clause-ready : goal.each_by-drawn-requires-clause-ready
each_by-drawn-requires-clause-ready g c κs within place thing at =
    let items = c.args.items.now in
    let inside = slice_get_within items place thing at in
    let few = c.requires.few in
    let trees = subst (λ i. trees_of i < 2 ^ 32) (get_or_from_slice_get items place thing thing at) (c.requires.trees place thing inside) in
    (c.requires.ready, c.requires.limits, omega (arith, inside, few), trees)
