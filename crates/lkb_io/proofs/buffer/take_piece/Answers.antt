use Rattle.std.proofs.Common.{arith}
use Rattle.std.proofs.lemmas.Grind.{common_steps}
use Rattle.lkb_io.proofs.Told.{IsAtEnd-after}
use Rattle.lkb_io.proofs.buffer.take_piece.Goals as goal

pub returns-clause-end : goal.returns-clause-end
returns-clause-end g c = λ e. IsAtEnd-after _ _ _ _ e c.in_ok-count.ensures.ok (c.in_ok-count.ensures.end e (let m = c.min-most.ensures in let l = c.len.ensures in let r = c.requires in grind (arith, common_steps, m, l, r)))
