use Rattle.std.proofs.Common.{[], ◌∷◌, sym, ◌∙◌, ap, subst, true, false, arith}
use Rattle.fs_model.specs.Table.{is_there, is_same, is_under, from}
use Rattle.fs_graph.specs.Facts.{path_of, claim_of}
use Rattle.fs_closing.specs.Work.{work_of}
use Rattle.fs_closing.specs.Keeps.{StepsTo}
use Rattle.fs_closing.proofs.ClosingLemmas.{reaches_by, steps_by, apply_exists}
use Rattle.fs_closing.proofs.StepLemmas.{steps_after}
use Rattle.fs_closing.proofs.closing.apply.Goals as goal

pub returns-in-Some-clause-steps : goal.returns-in-Some-clause-steps
returns-in-Some-clause-steps c =
    let g = c.args.system.now in
    let r = reaches_by g c.args.nodes.now c.args.tasks.now c.args.node c.deref.result.now c.in-Exists.path.items c.reach.new.nodes c.reach.new.tasks _ _
    c.deref.ensures.value c.in-Some.is c.in_ok-reach-in-Exists.ensures in
    steps_by g c.args.nodes.now c.args.node _ _ (work_of g.rules c.args.tasks.now) c.reach.new.nodes c.reach.new.tasks true (ap claim_of c.in-Exists.is)
    (apply_exists g c.args.nodes.now c.args.tasks.now c.args.node (path_of c.in-Exists.path.items) c.reach.new.nodes c.reach.new.tasks c.in-Some.field-0 r)

pub returns-in-None-clause-steps : goal.returns-in-None-clause-steps
returns-in-None-clause-steps c =
    let g = c.args.system.now in
    let r = reaches_by g c.args.nodes.now c.args.tasks.now c.args.node c.deref.result.now c.in-Exists.path.items c.reach.new.nodes c.reach.new.tasks _ _
    c.deref.ensures.value c.in-None.is c.in_ok-reach-in-Exists.ensures in
    steps_by g c.args.nodes.now c.args.node _ _ (work_of g.rules c.args.tasks.now) c.reach.new.nodes c.reach.new.tasks false (ap claim_of c.in-Exists.is)
    (r (is_there 0 []))

pub returns-in_ok-ok-in-Some-2-clause-steps : goal.returns-in_ok-ok-in-Some-2-clause-steps
returns-in_ok-ok-in-Some-2-clause-steps c =
    let g = c.args.system.now in
    let n = c.args.node in
    let r = reaches_by g c.args.nodes.now c.args.tasks.now c.args.node c.deref-in-Below.result.now c.in-Below.path.items c.reach-in-Below.new.nodes
    c.reach-in-Below.new.tasks _ _ c.deref-in-Below.ensures.value c.in-Some-2.is c.in_ok-at-in-Below.ensures in
    steps_by g c.args.nodes.now c.args.node _ _ (work_of g.rules c.args.tasks.now) c.put_under.new.nodes c.put_under.new.tasks c.in_ok-ok-in-Some-2.ok (ap claim_of c.in-Below.is)
    (steps_after g c.args.nodes.now c.reach-in-Below.new.nodes c.put_under.new.nodes (is_under n (path_of c.in-Below.path.items) c.in-Below.ty.0 ∷ work_of g.rules c.args.tasks.now)
    (is_under c.in-Some-2.at [] c.in-Below.ty.0 ∷ work_of g.rules c.reach-in-Below.new.tasks) c.put_under.new.tasks c.in_ok-ok-in-Some-2.ok
    (r.0 (is_under 0 [] c.in-Below.ty.0)) c.in_ok-ok-in-Some-2.ensures.steps)

pub returns-in-None-2-clause-steps : goal.returns-in-None-2-clause-steps
returns-in-None-2-clause-steps c =
    let g = c.args.system.now in
    let r = reaches_by g c.args.nodes.now c.args.tasks.now c.args.node c.deref-in-Below.result.now c.in-Below.path.items c.reach-in-Below.new.nodes
    c.reach-in-Below.new.tasks _ _ c.deref-in-Below.ensures.value c.in-None-2.is c.in_ok-at-in-Below.ensures in
    steps_by g c.args.nodes.now c.args.node _ _ (work_of g.rules c.args.tasks.now) c.reach-in-Below.new.nodes c.reach-in-Below.new.tasks false (ap claim_of c.in-Below.is)
    (r (is_under 0 [] c.in-Below.ty.0))

pub returns-in_ok-ok-in-Same-clause-steps : goal.returns-in_ok-ok-in-Same-clause-steps
returns-in_ok-ok-in-Same-clause-steps c =
    let g = c.args.system.now in
    let n = c.args.node in
    let e = ap (λ l. is_same n (path_of l) n (path_of c.deref-in-Same-2.result.now)) c.deref-in-Same.ensures.value
    ∙ ap (λ l. is_same n (path_of c.in-Same.a.items) n (path_of l)) c.deref-in-Same-2.ensures.value
    ∙ sym (ap (λ f. from n (claim_of f)) c.in-Same.is) in
    subst (λ k. StepsTo g c.args.nodes.now (k ∷ work_of g.rules c.args.tasks.now) c.apply_same.new.nodes c.apply_same.new.tasks c.in_ok-ok-in-Same.ok) e
    c.in_ok-ok-in-Same.ensures.steps

pub returns-in-Some-clause-more : goal.returns-in-Some-clause-more
returns-in-Some-clause-more c = λ _.
    let g = c.args.system.now in
    let r = reaches_by g c.args.nodes.now c.args.tasks.now c.args.node c.deref.result.now c.in-Exists.path.items c.reach.new.nodes c.reach.new.tasks _ _
    c.deref.ensures.value c.in-Some.is c.in_ok-reach-in-Exists.ensures in
    r.3

pub returns-in_ok-ok-in-Some-2-clause-more : goal.returns-in_ok-ok-in-Some-2-clause-more
returns-in_ok-ok-in-Some-2-clause-more c = λ _.
    let g = c.args.system.now in
    let r = reaches_by g c.args.nodes.now c.args.tasks.now c.args.node c.deref-in-Below.result.now c.in-Below.path.items c.reach-in-Below.new.nodes
    c.reach-in-Below.new.tasks _ _ c.deref-in-Below.ensures.value c.in-Some-2.is c.in_ok-at-in-Below.ensures in
    omega (arith, r.3, c.in_ok-ok-in-Some-2.ensures.more)
