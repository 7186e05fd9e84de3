use Rattle.std.proofs.Common.{map, subst}
use Rattle.book_signs.specs.Trees.{signs_of}
use Rattle.generate_model.specs.Contributions.{asked_of}
use Rattle.generated_leaves.specs.Leaves.{IsGenLexical}
use Rattle.generated_leaves.specs.Views.{told_seen, leaves_seen}
use Rattle.generated_leaves.specs.Inner.Picking.{IsPicked}
use Rattle.generated_leaves.proofs.Leafed.{if_ok, lexical_is}
use Rattle.generated_leaves.proofs.leaves.leaves_of.Goals as goal

pub returns : goal.returns
returns c t words input own asked =
    if_ok c.pick.result (λ found. IsPicked c.args.bag.now c.args.most c.args.bound.now.empty (map (told_seen t) c.args.told.now) (leaves_seen t found))
    (λ found. IsGenLexical (signs_of t) words (asked_of (signs_of t) input) c.args.most c.args.bound.now.empty own (leaves_seen t found))
    (λ found h. lexical_is (signs_of t) asked.order words input own c.args.most c.args.bound.now.empty (map (told_seen t) c.args.told.now) asked.told_are (leaves_seen t found)
    (subst (λ b. IsPicked b c.args.most c.args.bound.now.empty (map (told_seen t) c.args.told.now) (leaves_seen t found)) asked.bag_is h))
    (c.pick.ensures t)
