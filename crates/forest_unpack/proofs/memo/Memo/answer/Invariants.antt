use Rattle.forest_unpack.specs.Inner.Memos.{places_left}
use Rattle.forest_unpack.proofs.memo.Memo.answer.Given as goal

abbrev pub decreases-loop-next : goal.decreases-loop-next
decreases-loop-next g l = places_left l.next
