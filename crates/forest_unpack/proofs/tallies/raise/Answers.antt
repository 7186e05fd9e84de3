use Rattle.std.proofs.Common.{rules, refl, ap, arith, ◌≡◌, slice_get}
use Rattle.forest_unpack.proofs.Raising.{at_get, some_one}
use Rattle.forest_unpack.proofs.tallies.raise.Goals as goal

pub returns : goal.returns
returns g c =
    let made = c.args.made.now.items in
    let here = at_get made c.args.place c.index_mut.result.now (search rules) (search rules) in
    let read = at_get made c.args.place c.index.result.now (search rules) (search rules) in
    let same = some_one c.index.result.now c.index_mut.result.now (slice_get made c.args.place) read here in
    let times : c.index.result.now.times ≡ c.index_mut.result.now.times = ap (λ class. class.times) same in
    let sum = c.saturating_add-sum.ensures in
    record { class = c.index_mut.result.now; at = here; sum = c.saturating_add-sum.result; low = omega (arith, times, sum); is = refl }
