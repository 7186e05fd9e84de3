use Rattle.forest_unpack.specs.Items.{items_of}
use Rattle.forest_unpack.proofs.Repeats.{sifted_nothing}
use Rattle.forest_unpack.proofs.sifting.sift.Goals as goal

pub returns-in-Nothing-clause-sifted : goal.returns-in-Nothing-clause-sifted
returns-in-Nothing-clause-sifted g c = rw c.in-Nothing.is (sifted_nothing (items_of (g.F.Fulls.value c.args.fulls.now) c.args.made.items))

pub returns-in-Repeats-clause-sifted : goal.returns-in-Repeats-clause-sifted
returns-in-Repeats-clause-sifted g c = rw c.in-Repeats.is c.without_repeats.ensures.sifted
