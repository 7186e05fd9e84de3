use Rattle.chart_core.specs.Grammar.{grammar_of}
use Rattle.chart_core.proofs.Visits.{taken_up}
use Rattle.chart_core.proofs.passing.Pass.take_up.Goals as goal

pub returns-clause-passing : goal.returns-clause-passing
returns-clause-passing g c =
    let s = c.args.shapes.now in
    let first = c.in_ok-round.ensures.taking 1 c.requires.taking in
    let second = c.in_ok-round-2.ensures.taking 2 first in
    let third = c.in_ok-round-3.ensures.taking 3 second in
    let fourth = c.in_ok-round-4.ensures.taking 4 third in
    taken_up (grammar_of g.S.Shapes g.S.Cover.Cover s) (g.met.S.Shapes.laws s) c.round-4.new.self c.in_ok-round-4.ensures.sure _ fourth
