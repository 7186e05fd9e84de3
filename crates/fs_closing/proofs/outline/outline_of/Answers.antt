use Rattle.std.proofs.Common.{subst}
use Rattle.fs_closing.specs.Systems.{rules_of}
use Rattle.fs_closing.specs.Inner.Outlines.{IsEnd}
use Rattle.fs_closing.proofs.OutlineLemmas.{ends_more}
use Rattle.fs_closing.proofs.outline.outline_of.Goals as goal

pub loop-i-preserved : goal.loop-i-preserved
loop-i-preserved c =
    ends_more c.args.types.now (rules_of c.args.constraints.now) c.in_ok-order.order.items c.loop-i.ends.items c.push.new.self.items c.loop-i.i c.end_of-end.result
    c.in_ok-push.ensures.items c.loop-i.invariant
    (subst (λ l. IsEnd c.args.types.now (rules_of c.args.constraints.now) l c.loop-i.i c.end_of-end.result) c.deref.ensures.value c.end_of-end.ensures)
