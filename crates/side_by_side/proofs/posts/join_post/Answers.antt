use Rattle.side_by_side.proofs.Drawing.{one_joined, both_joined}
use Rattle.side_by_side.proofs.posts.join_post.Goals as goal

pub returns-clause-joined : goal.returns-clause-joined
returns-clause-joined g c =
    let gives = g.K.Work.Gives c.args._work.now in
    both_joined gives c.args._things.now c.args.draws.now c.args.first.now c.args.post _ c.requires.joined
    (one_joined gives c.args._things.now c.args.draws.now c.args.post c.requires.left c.if-post.false)
    c.join.ensures.id c.join.ensures.both c.in_ok-append.ensures.items
