use Rattle.std.proofs.Common.{arith, subst}
use Rattle.type_hierarchy.specs.Inner.Marks.{IsMark}
use Rattle.type_hierarchy.proofs.MarkLemmas.{marks_push}
use Rattle.type_hierarchy.proofs.marks.marks_of.Goals as goal

pub loop-row-preserved : goal.loop-row-preserved
loop-row-preserved c =
    marks_push c.args.rows.now c.loop-row.marks.items c.push.new.self.items c.row-item.result c.loop-row.row-index c.mark_of.result (omega arith) c.row-item.is
    (subst (λ l. IsMark l c.mark_of.result) c.deref.ensures.value c.mark_of.ensures) c.in_ok-push.ensures.items c.loop-row.invariant.0 c.loop-row.invariant.1
