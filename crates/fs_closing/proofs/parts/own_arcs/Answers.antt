use Rattle.std.proofs.Common.{sym}
use Rattle.fs_closing.proofs.BesideLemmas.{home_holds, row_home, row_none}
use Rattle.fs_closing.proofs.parts.own_arcs.Goals as goal

pub overflow_sub-n : goal.overflow_sub-n
overflow_sub-n c = (home_holds c.args.n c.args.beside.now c.in-Some.part.now (sym c.in-Some.ensures)).0

pub arcs-requires : goal.arcs-requires
arcs-requires c = (home_holds c.args.n c.args.beside.now c.in-Some.part.now (sym c.in-Some.ensures)).1

pub returns-in-Some : goal.returns-in-Some
returns-in-Some c = row_home c.args.beside.now c.args.n c.in-Some.part.now c.arcs.result.now (sym c.in-Some.ensures) c.arcs.ensures

pub returns-in-None : goal.returns-in-None
returns-in-None c = sym (row_none c.args.beside.now c.args.n (sym c.in-None.ensures))
