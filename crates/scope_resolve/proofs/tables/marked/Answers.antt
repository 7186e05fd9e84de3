use Rattle.std.proofs.Common.{◌≤◌, length, refl, sym, subst, arith}
use Rattle.scope_resolve.proofs.Owning.{AreMarked, marked_first, marked_on, marked_end}
use Rattle.scope_resolve.proofs.tables.marked.Goals as goal

pub loop-at-init : goal.loop-at-init
loop-at-init c = subst (AreMarked c.args.marks.now 0) (sym c.new-out.ensures.items) (marked_first c.args.marks.now)

pub loop-at-preserved : goal.loop-at-preserved
loop-at-preserved c = marked_on c.args.marks.now c.loop-at.at c.loop-at.out.items c.loop-at.invariant _ _ refl c.in_ok-put_marked.ensures.marked c.in_ok-put_marked.ensures.other

pub returns-clause-rise : goal.returns-clause-rise
returns-clause-rise c = c.loop-at.invariant.rise

pub returns-clause-has : goal.returns-clause-has
returns-clause-has c =
    let l : length c.args.marks.now ≤ c.loop-at.at = omega (arith, c.loop-at-test.false) in
    marked_end c.args.marks.now c.loop-at.at c.loop-at.out.items c.loop-at.invariant l
