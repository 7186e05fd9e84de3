use Rattle.std.proofs.Common.{◌+◌, sym, subst}
use Rattle.type_hierarchy.proofs.MarkLemmas.{IsMarkTo, mark_skip, mark_add}
use Rattle.type_hierarchy.proofs.marks.mark_of.Goals as goal
use Rattle.type_hierarchy.proofs.marks.mark_of.Goals.{then-words-i-ne0, else-words-i-ne0}

pub loop-i-preserved : goal.loop-i-preserved
loop-i-preserved c =
    elim c.if-words-i-ne0.branch [
      | then-words-i-ne0 w ↦
          subst (IsMarkTo c.args.words.now (c.loop-i.i + 1)) (sym w.mark-is)
          (mark_add c.args.words.now c.loop-i.i c.loop-i.mark (c.type_inv.words c.loop-i.i).fits w.if-words-i-ne0.true c.loop-i.invariant)
      | else-words-i-ne0 w ↦
          subst (IsMarkTo c.args.words.now (c.loop-i.i + 1)) (sym w.mark-is) (mark_skip c.args.words.now c.loop-i.i c.loop-i.mark w.if-words-i-ne0.false c.loop-i.invariant)
    ]
