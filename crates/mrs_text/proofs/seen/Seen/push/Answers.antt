use Rattle.std.proofs.Common.{rules}
use Rattle.mrs_text.proofs.Placing.{slots_more}
use Rattle.mrs_text.proofs.seen.Seen.push.Goals as goal

pub invariant_of-self-2 : goal.invariant_of-self-2
invariant_of-self-2 c =
    rw (c.in_ok-push.ensures.items, c.len-at.ensures)
    (slots_more _ _ _ _ _ (search rules) c.self.view_is c.self.invariant c.requires.within c.requires.new)
