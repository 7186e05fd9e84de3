use Rattle.std.proofs.Common.{◌≡◌, length, ap, subst, ◌∙◌, ◌++◌, arith}
use Rattle.std.specs.Prelude.{option_to_list}
use Rattle.tree_faults.specs.Inner.Walks.{Follows}
use Rattle.tree_faults.proofs.Walked.{walk_down, walk_down_less, walk_past, walk_past_less, walk_up, walk_up_less, walk_over}
use Rattle.tree_faults.proofs.misspelled.step.Goals as goal

pub returns-in_ok-push-in-Down : goal.returns-in_ok-push-in-Down
returns-in_ok-push-in-Down c = λ words whole w f.
    let is = subst (Follows words c.args.here) c.in-Down.is f in (
      walk_down words whole c.args.waiting.now.items c.push.new.self.items c.args.here c.in-Down.below w is c.in_ok-push-in-Down.ensures.items,
      walk_down_less words whole c.args.waiting.now.items c.push.new.self.items c.args.here c.in-Down.below is c.in_ok-push-in-Down.ensures.items,
    )

pub returns-in-Spelled : goal.returns-in-Spelled
returns-in-Spelled c = λ words whole w f.
    let is = subst (Follows words c.args.here) c.in-Spelled.is f in
    let p = c.past.ensures in (
      walk_past words whole c.args.waiting.now.items c.args.here c.past.result p.rule p.daughters p.passed w is,
      walk_past_less words whole c.args.waiting.now.items c.args.here c.past.result p.rule p.daughters p.passed is,
    )

pub returns-in-Fault : goal.returns-in-Fault
returns-in-Fault c = λ words whole w f. (w, subst (Follows words c.args.here) c.in-Fault.is f)

pub returns-in-Some : goal.returns-in-Some
returns-in-Some c = λ words whole w f.
    let popped = c.pop.ensures.items ∙ ap (λ o. c.pop.new.self.items ++ option_to_list o) c.in-Some.is in
    let is = subst (Follows words c.args.here) c.in-Over.is f in
    let p = c.past-in-Some.ensures in (
      walk_up words whole c.pop.new.self.items c.in-Some.above c.past-in-Some.result p.rule p.daughters p.passed c.args.waiting.now.items c.args.here popped w is,
      walk_up_less words whole c.pop.new.self.items c.in-Some.above c.past-in-Some.result p.rule p.daughters p.passed c.args.waiting.now.items c.args.here popped w,
    )

pub returns-in-None : goal.returns-in-None
returns-in-None c = λ words whole w f.
    let none = rw c.in-None.is at c.pop.ensures.cases in
    let empty : length c.args.waiting.now.items ≡ 0 = omega (arith, none.0, c.args.waiting.now.ok) in
    walk_over words whole c.args.waiting.now.items c.args.here empty w (subst (Follows words c.args.here) c.in-Over.is f)
