use Rattle.book_signs.specs.Trees.{signs_of}
use Rattle.rule_trees.proofs.MakingLemmas.{has_place}
use Rattle.rule_trees.proofs.FollowLemmas.{no_follow}
use Rattle.rule_trees.proofs.following.may_follow.Goals as goal

pub own_of-requires : goal.own_of-requires
own_of-requires c = has_place (signs_of c.args.signs.now) c.args.inner 1 c.requires.inner

pub returns : goal.returns
returns c = λ off. no_follow c.args.signs.now c.args.inner c.args.outer c.in_ok-own.own c.in_ok-own.ensures.own (c.in_ok-yes.ensures off)
