use Rattle.forest_unpack.proofs.Repeats.{empty_by}
use Rattle.forest_unpack.proofs.sifting.are_enough.Goals as goal

pub returns-in-Nothing : goal.returns-in-Nothing
returns-in-Nothing c = rw c.in-Nothing.is (λ t. tt)

pub returns-in-Repeats : goal.returns-in-Repeats
returns-in-Repeats c = rw c.in-Repeats.is (λ t. empty_by c.args.kept.now c.is_empty.result c.is_empty.ensures t)
