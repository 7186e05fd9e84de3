use Rattle.std.proofs.Common.{arith}
use Rattle.forced_types.specs.Inner.Search.{IsMarked}
use Rattle.forced_types.proofs.TypeLemmas.{one_more}
use Rattle.forced_types.proofs.nodes.Nodes.are_marked.Goals as goal

pub loop-n-preserved : goal.loop-n-preserved
loop-n-preserved c =
    one_more (IsMarked c.args.given c.args.self.now c.args.aim c.args.marks.now) c.loop-n.n c.loop-n.invariant (c.is_marked.ensures c.if-not-is_marked.false)

pub returns : goal.returns
returns c = λ _ n h. c.loop-n.invariant n (omega (arith, c.loop-n-test.false, c.size-n-end.ensures, h))
