use Rattle.std.proofs.Common.{sym}
use Rattle.fs_closing.proofs.BesideLemmas.{home_holds}
use Rattle.fs_closing.proofs.parts.own_type.Goals as goal

pub overflow_sub-n : goal.overflow_sub-n
overflow_sub-n c = (home_holds c.args.n c.args.beside.now c.in-Some.part.now (sym c.in-Some.ensures)).0

pub ty-requires : goal.ty-requires
ty-requires c = (home_holds c.args.n c.args.beside.now c.in-Some.part.now (sym c.in-Some.ensures)).1
