use Rattle.std.proofs.Common.{rules}
use Rattle.forest_unpack.proofs.Repeats.{there_last}
use Rattle.forest_unpack.proofs.sifting.repeats.Goals as goal

pub returns : goal.returns
returns g c = λ t. there_last c.args.kept.now _ c.index-kept-place.result c.args.item.now.number c.index-kept-place.is (search rules) (c.has_number.ensures t)
