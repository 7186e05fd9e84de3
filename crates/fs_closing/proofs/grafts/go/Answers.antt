use Rattle.std.proofs.Common.{[], ◌∷◌, sym, ◌∙◌, ap, subst, arith}
use Rattle.fs_model.specs.Table.{is_under}
use Rattle.fs_closing.specs.NodeTable.{table_of}
use Rattle.fs_closing.specs.Rules.{system_of}
use Rattle.fs_closing.specs.Work.{work_of}
use Rattle.fs_closing.specs.Keeps.{StepsTo, Leads, Clashes, deep_of}
use Rattle.fs_closing.proofs.KeepsLemmas.{Turns-advance}
use Rattle.fs_closing.proofs.GraftSteps.{go_on, unintroduced}
use Rattle.fs_closing.proofs.grafts.go.Goals as goal

pub returns-in-Some-clause-leads : goal.returns-in-Some-clause-leads
returns-in-Some-clause-leads c =
    let is_l = c.live-from.ensures.value in
    λ d p. Turns-advance (system_of c.args.system.now) (deep_of c.args.nodes.now) c.args.node c.args.feat c.in-Some.to p d _
    (ap (λ k. (table_of c.args.nodes.now).arc k c.args.feat) (sym is_l) ∙ sym c.in-Some.ensures.value)

pub returns-in_ok-end-in-true-clause-leads : goal.returns-in_ok-end-in-true-clause-leads
returns-in_ok-end-in-true-clause-leads c =
    let g = c.args.system.now in
    let nodes = c.args.nodes.now in
    let bound = (subst (StepsTo g nodes (is_under c.args.node [] c.introducer-introducer.result ∷ work_of g.rules c.args.tasks.now) c.put_under.new.nodes c.put_under.new.tasks)
    c.in-true.is c.in_ok-put_under.ensures.steps).0 in
    go_on g nodes c.put_under.new.nodes c.extend.new.nodes c.args.node c.args.feat c.args.tasks.now c.put_under.new.tasks c.extend.new.tasks c.in_ok-end-in-true.end
    (subst (λ i. Leads g nodes (is_under c.args.node [] i ∷ work_of g.rules c.args.tasks.now) c.put_under.new.nodes (work_of g.rules c.put_under.new.tasks))
    c.introducer-introducer.ensures.value bound) c.in_ok-end-in-true.ensures.leads

pub returns-in-false-clause-leads : goal.returns-in-false-clause-leads
returns-in-false-clause-leads c =
    let g = c.args.system.now in
    let nodes = c.args.nodes.now in
    let clash = subst (StepsTo g nodes (is_under c.args.node [] c.introducer-introducer.result ∷ work_of g.rules c.args.tasks.now) c.put_under.new.nodes c.put_under.new.tasks)
    c.in-false.is c.in_ok-put_under.ensures.steps in
    λ k p. unintroduced (system_of g) (deep_of nodes) c.args.node c.args.feat p k (work_of g.rules c.args.tasks.now)
    (subst (λ i. Clashes g nodes (is_under c.args.node [] i ∷ work_of g.rules c.args.tasks.now)) c.introducer-introducer.ensures.value clash)

pub extend-requires-clause-sound : goal.extend-requires-clause-sound
extend-requires-clause-sound c =
    let g = c.args.system.now in
    (subst (StepsTo g c.args.nodes.now (is_under c.args.node [] c.introducer-introducer.result ∷ work_of g.rules c.args.tasks.now) c.put_under.new.nodes c.put_under.new.tasks)
    c.in-true.is c.in_ok-put_under.ensures.steps).1

pub extend-requires-clause-node : goal.extend-requires-clause-node
extend-requires-clause-node c = omega (arith, c.requires.node, c.in_ok-put_under.ensures.more)

pub returns-in_ok-end-in-true-clause-more : goal.returns-in_ok-end-in-true-clause-more
returns-in_ok-end-in-true-clause-more c = omega (arith, c.in_ok-put_under.ensures.more, c.in_ok-end-in-true.ensures.more)
