use Rattle.std.proofs.Common.{[], ◌∷◌, refl, ◌∙◌, subst, true, false}
use Rattle.fs_closing.specs.Work.{pair_claim, bound_claim, entry_claims, work_of}
use Rattle.fs_closing.specs.Keeps.{StepsTo}
use Rattle.fs_closing.proofs.ClosingLemmas.{stepped, same_work}
use Rattle.fs_closing.proofs.closing.step.Goals as goal

pub returns-in-true : goal.returns-in-true
returns-in-true c =
    let g = c.args.system.now in
    let r = subst (StepsTo g c.args.nodes.now (pair_claim c.in-Some.pair ∷ work_of g.rules c.pop_pair.new.self) c.join.new.nodes c.join.new.tasks)
    c.in-true.is c.in_ok-join.ensures.steps in
    stepped g c.args.nodes.now c.args.tasks.now c.args.tasks.now c.pop_pair.new.self (pair_claim c.in-Some.pair ∷ []) c.join.new.nodes c.join.new.tasks true
    refl (c.in-Some.ensures.0.work g.rules) r

pub returns-in-false : goal.returns-in-false
returns-in-false c =
    let g = c.args.system.now in
    let r = subst (StepsTo g c.args.nodes.now (pair_claim c.in-Some.pair ∷ work_of g.rules c.pop_pair.new.self) c.join.new.nodes c.join.new.tasks)
    c.in-false.is c.in_ok-join.ensures.steps in
    stepped g c.args.nodes.now c.args.tasks.now c.args.tasks.now c.pop_pair.new.self (pair_claim c.in-Some.pair ∷ []) c.join.new.nodes c.join.new.tasks false
    refl (c.in-Some.ensures.0.work g.rules) r

pub returns-in-true-2 : goal.returns-in-true-2
returns-in-true-2 c =
    let g = c.args.system.now in
    let claims = bound_claim c.in-Some-pop_bound.bound ∷ [] in
    let r = subst (StepsTo g c.args.nodes.now (bound_claim c.in-Some-pop_bound.bound ∷ work_of g.rules c.pop_bound.new.self) c.put_under.new.nodes c.put_under.new.tasks)
    c.in-true-2.is c.in_ok-put_under.ensures.steps in
    stepped g c.args.nodes.now c.args.tasks.now c.pop_pair.new.self c.pop_bound.new.self claims c.put_under.new.nodes c.put_under.new.tasks true
    (same_work g.rules _ _ c.in_default.ensures.1) (c.in-Some-pop_bound.ensures.0.work g.rules) r

pub returns-in-false-2 : goal.returns-in-false-2
returns-in-false-2 c =
    let g = c.args.system.now in
    let claims = bound_claim c.in-Some-pop_bound.bound ∷ [] in
    let r = subst (StepsTo g c.args.nodes.now (bound_claim c.in-Some-pop_bound.bound ∷ work_of g.rules c.pop_bound.new.self) c.put_under.new.nodes c.put_under.new.tasks)
    c.in-false-2.is c.in_ok-put_under.ensures.steps in
    stepped g c.args.nodes.now c.args.tasks.now c.pop_pair.new.self c.pop_bound.new.self claims c.put_under.new.nodes c.put_under.new.tasks false
    (same_work g.rules _ _ c.in_default.ensures.1) (c.in-Some-pop_bound.ensures.0.work g.rules) r

pub returns-in-true-3 : goal.returns-in-true-3
returns-in-true-3 c =
    let g = c.args.system.now in
    let claims = entry_claims g.rules c.in-Some-pop_entry.entry in
    let r = subst (StepsTo g c.args.nodes.now _ c.step_entry.new.nodes c.step_entry.new.tasks) c.in-true-3.is c.in_ok-step_entry.ensures in
    stepped g c.args.nodes.now c.args.tasks.now c.pop_bound.new.self c.pop_entry.new.self claims c.step_entry.new.nodes c.step_entry.new.tasks true
    (same_work g.rules _ _ c.in_default-pop_bound.ensures.1 ∙ same_work g.rules _ _ c.in_default.ensures.1) (c.in-Some-pop_entry.ensures.0.work g.rules) r

pub returns-in-false-3 : goal.returns-in-false-3
returns-in-false-3 c =
    let g = c.args.system.now in
    let claims = entry_claims g.rules c.in-Some-pop_entry.entry in
    let r = subst (StepsTo g c.args.nodes.now _ c.step_entry.new.nodes c.step_entry.new.tasks) c.in-false-3.is c.in_ok-step_entry.ensures in
    stepped g c.args.nodes.now c.args.tasks.now c.pop_bound.new.self c.pop_entry.new.self claims c.step_entry.new.nodes c.step_entry.new.tasks false
    (same_work g.rules _ _ c.in_default-pop_bound.ensures.1 ∙ same_work g.rules _ _ c.in_default.ensures.1) (c.in-Some-pop_entry.ensures.0.work g.rules) r
