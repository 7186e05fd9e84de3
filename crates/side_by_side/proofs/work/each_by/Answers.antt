use Rattle.std.proofs.Common.{◌≡◌, ◌∙◌, ◌++◌, All, length, take, drop, ap, sym, subst, arith}
use Rattle.std.proofs.Math.Seq.{take-append_seam}
use Rattle.side_by_side.specs.Inner.Posts.{HasLeft}
use Rattle.side_by_side.proofs.work.each_by.Goals as goal

-- the workers leave as many posts as there were
pub close_posts-requires-clause-each : goal.close_posts-requires-clause-each
close_posts-requires-clause-each g c =
    let left = c.run.new.posts in let old = c.in_ok-posts.posts in let rest = drop (length left) old.items in
    let n = c.run.ensures.count in let l = c.deref_mut.ensures.len in
    let many : old.len ≡ length left = omega arith in
    subst (λ l. All (HasLeft (g.K.Work.Gives c.args.work.now) c.args.things.now c.in_ok-draws.draws) l) (sym (ap (λ k. take k (left ++ rest)) many ∙ take-append_seam left rest)) c.run.ensures.each
