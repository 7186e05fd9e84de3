use Rattle.std.proofs.Common.{sym, arith, Ok, Err}
use Rattle.tree_faults.proofs.Numbered.{at_least, found, number_at}
use Rattle.tree_faults.proofs.word_book.number_of.Goals as goal

pub overflow_cast-result : goal.overflow_cast-result
overflow_cast-result c =
    let at = found c.args.places.now c.requires.rise c.args.place c.requires.at.0 c.requires.at.1 (Ok c.in-Ok.number) c.in-Ok.ensures.position in
    let low = at_least c.args.places.now c.requires.rise c.in-Ok.number c.args.place at in
    grind (arith, low)

pub unreachable-requires : goal.unreachable-requires
unreachable-requires c = found c.args.places.now c.requires.rise c.args.place c.requires.at.0 c.requires.at.1 (Err c.in-Err.field-0) c.in-Err.ensures.position

pub returns-clause-number : goal.returns-clause-number
returns-clause-number c =
    let at = found c.args.places.now c.requires.rise c.args.place c.requires.at.0 c.requires.at.1 (Ok c.in-Ok.number) c.in-Ok.ensures.position in
    sym (number_at c.args.places.now c.requires.rise at)
