use Rattle.std.proofs.Common.{subst, arith}
use Rattle.side_by_side.specs.Inner.Posts.{HasLeft}
use Rattle.side_by_side.proofs.posts.run.Goals as goal

pub returns-clause-each : goal.returns-clause-each
returns-clause-each g c = λ k d lt.
    let h = c.for_each_mut.ensures k d (let e = c.for_each_mut.auto.s in omega (arith, e, lt)) in
    subst (λ x. HasLeft (g.K.Work.Gives c.args.work.now) c.args.things.now c.args.draws.now x) h.1.left h.1.call
