use Rattle.grammar_shapes.proofs.PartLemmas.{parts_are}
use Rattle.grammar_shapes.proofs.parts.parts_with.Goals as goal

pub returns : goal.returns
returns _ c =
    let whole = parts_are c.args.rule.now c.args.tuple.now c.args.owed.now c.requires.tuple c.requires.short c.requires.few in
    rw (c.in_ok-add_daughter-4.ensures, c.in_ok-add_daughter-3.ensures, c.in_ok-add_daughter-2.ensures, c.in_ok-add_daughter.ensures, c.in_ok-add_closed.ensures.ok, c.new-parts.ensures, c.new.ensures.items) (whole _)
