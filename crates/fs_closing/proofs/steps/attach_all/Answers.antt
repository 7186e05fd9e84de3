use Rattle.std.proofs.Common.{◌++◌, sym, ◌∙◌, subst, arith}
use Rattle.fs_closing.specs.Cells.{chain}
use Rattle.fs_closing.specs.NodeTable.{own_row}
use Rattle.fs_closing.specs.Work.{work_of}
use Rattle.fs_closing.specs.Keeps.{StepsTo, Leads, Clashes, arc_claims}
use Rattle.fs_closing.proofs.StepLemmas.{claims_append, rest_after, rest_clashes, steps_after}
use Rattle.fs_closing.proofs.steps.attach_all.Goals as goal

pub attach_own-requires-clause-of_in : goal.attach_own-requires-clause-of_in
attach_own-requires-clause-of_in c = omega (arith, c.in_ok-attach_cells.ensures.arcs.size, c.requires.of_in)

pub attach_own-requires-clause-node : goal.attach_own-requires-clause-node
attach_own-requires-clause-node c = omega (arith, c.in_ok-attach_cells.ensures.arcs.size, c.requires.node)

pub attach_own-requires-clause-stays : goal.attach_own-requires-clause-stays
attach_own-requires-clause-stays c = c.in_ok-attach_cells.ensures.arcs.live c.args.n ∙ c.requires.stays

pub attach_own-requires-clause-sound : goal.attach_own-requires-clause-sound
attach_own-requires-clause-sound c =
    let g = c.args.system.now in
    let nodes = c.args.nodes.now in
    let work = arc_claims c.args.n (chain nodes.cells c.args.first) ++ work_of g.rules c.args.tasks.now in
    (subst (StepsTo g nodes work c.attach_cells.new.nodes c.attach_cells.new.tasks) c.in-true.is c.in_ok-attach_cells.ensures.steps).1

pub returns-in_ok-ok-in-true-clause-steps : goal.returns-in_ok-ok-in-true-clause-steps
returns-in_ok-ok-in-true-clause-steps c =
    let g = c.args.system.now in
    let nodes = c.args.nodes.now in
    let n = c.args.n in
    let added = chain nodes.cells c.args.first in
    let own = own_row nodes c.args.of in
    let work = work_of g.rules c.args.tasks.now in
    let one = (subst (StepsTo g nodes (arc_claims n added ++ work) c.attach_cells.new.nodes c.attach_cells.new.tasks) c.in-true.is c.in_ok-attach_cells.ensures.steps).0 in
    let both = rest_after g nodes c.attach_cells.new.nodes (arc_claims n added) (arc_claims n own) work (work_of g.rules c.attach_cells.new.tasks) one in
    let start = subst (λ l. Leads g nodes (l ++ work) c.attach_cells.new.nodes (arc_claims n own ++ work_of g.rules c.attach_cells.new.tasks)) (sym (claims_append n added own)) both in
    steps_after g nodes c.attach_cells.new.nodes c.attach_own.new.nodes (arc_claims n (added ++ own) ++ work) (arc_claims n own ++ work_of g.rules c.attach_cells.new.tasks)
    c.attach_own.new.tasks c.in_ok-ok-in-true.ok start
    (subst (λ l. StepsTo g c.attach_cells.new.nodes (arc_claims n l ++ work_of g.rules c.attach_cells.new.tasks)
    c.attach_own.new.nodes c.attach_own.new.tasks c.in_ok-ok-in-true.ok) (c.in_ok-attach_cells.ensures.arcs.own c.args.of) c.in_ok-ok-in-true.ensures.steps)

pub returns-in-false-clause-steps : goal.returns-in-false-clause-steps
returns-in-false-clause-steps c =
    let g = c.args.system.now in
    let nodes = c.args.nodes.now in
    let n = c.args.n in
    let added = chain nodes.cells c.args.first in
    let own = own_row nodes c.args.of in
    let work = work_of g.rules c.args.tasks.now in
    let one = subst (StepsTo g nodes (arc_claims n added ++ work) c.attach_cells.new.nodes c.attach_cells.new.tasks) c.in-false.is c.in_ok-attach_cells.ensures.steps in
    subst (λ l. Clashes g nodes (l ++ work)) (sym (claims_append n added own)) (rest_clashes g nodes (arc_claims n added) (arc_claims n own) work one)

pub returns-in_ok-ok-in-true-clause-size : goal.returns-in_ok-ok-in-true-clause-size
returns-in_ok-ok-in-true-clause-size c = c.in_ok-ok-in-true.ensures.size ∙ c.in_ok-attach_cells.ensures.arcs.size

pub returns-in-false-clause-size : goal.returns-in-false-clause-size
returns-in-false-clause-size c = c.in_ok-attach_cells.ensures.arcs.size
