use Rattle.std.proofs.Common.{◌≡◌, sym, subst}
use Rattle.std.proofs.lemmas.List.Elements.{All-push}
use Rattle.answer_memo.specs.Tagged.{AreTagged}
use Rattle.answer_memo.proofs.levels.slots_of.Goals as goal

pub loop-preserved : goal.loop-preserved
loop-preserved g c =
    let tag = c.args.tag.now.numbers in
    subst (AreTagged tag) (sym c.in_ok-push.ensures.items) (All-push (λ slot. slot.tag ≡ tag) c.loop.slots.items c.free_slot.result c.loop.invariant c.free_slot.ensures)
