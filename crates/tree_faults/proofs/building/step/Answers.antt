use Rattle.std.proofs.Common.{◌≡◌, ap, subst, ◌∙◌, ◌++◌}
use Rattle.std.specs.Prelude.{option_to_list}
use Rattle.tree_faults.specs.declared.building.Next.TheVariants.{Down, Below, Here}
use Rattle.tree_faults.specs.declared.making.Outcome.TheVariants as outcomes
use Rattle.tree_faults.specs.Inner.Building.{Follows, left_of}
use Rattle.tree_faults.proofs.BuildingWalk.{walk_down, walk_leaf, walk_up, walk_lacks, walk_below}
use Rattle.tree_faults.proofs.building.step.Goals as goal

pub returns-in-Down : goal.returns-in-Down
returns-in-Down c = λ t whole arities formed w f.
    let a = c.in-Down.is in
    let b = c.in-Down.below-is in
    let is : c.args.next ≡ Down c.in-Down.below = cc in
    walk_down t whole arities formed c.args.waiting.now.items c.push.new.self.items c.args.here c.in-Down.below w (subst (Follows t c.args.here) is f) c.in_ok-push-in-Down.ensures.items

pub returns-in-Below-Full : goal.returns-in-Below-Full
returns-in-Below-Full c = λ t whole arities formed w f.
    let a = c.in-Below-Full.is in
    let b = c.in-Below-Full.field-0-is in
    let d = c.in-Below-Full.full-is in
    let is : c.args.next ≡ Below (outcomes.Full c.in-Below-Full.full) = cc in
    let p = c.with.ensures in
    walk_leaf t whole arities formed c.args.waiting.now.items c.args.here c.with.result c.in-Below-Full.full (record { rule = p.rule; daughters = p.daughters; known = p.known }) w (subst (Follows t c.args.here) is f)

pub returns-in-Below-Lacking : goal.returns-in-Below-Lacking
returns-in-Below-Lacking c = λ t whole arities formed w f.
    let a = c.in-Below-Lacking.is in
    let b = c.in-Below-Lacking.field-0-is in
    let d = c.in-Below-Lacking.lack-is in
    let is : c.args.next ≡ Below (outcomes.Lacking c.in-Below-Lacking.lack) = cc in
    walk_below t whole arities formed c.args.waiting.now.items c.push-in-Below-Lacking.new.self.items c.args.here c.in-Below-Lacking.lack (left_of c.args.waiting.now.items c.args.here) w (subst (Follows t c.args.here) is f) c.in_ok-push-in-Below-Lacking.ensures.items

pub returns-in-Some : goal.returns-in-Some
returns-in-Some c = λ t whole arities formed w f.
    let a = c.in-Here-Full.is in
    let b = c.in-Here-Full.field-0-is in
    let d = c.in-Here-Full.full-is in
    let is : c.args.next ≡ Here (outcomes.Full c.in-Here-Full.full) = cc in
    let popped = c.pop.ensures.items ∙ ap (λ o. c.pop.new.self.items ++ option_to_list o) c.in-Some.is in
    let p = c.with-in-Some.ensures in
    walk_up t whole arities formed c.pop.new.self.items c.args.waiting.now.items c.in-Some.above c.with-in-Some.result c.args.here c.in-Here-Full.full (record { rule = p.rule; daughters = p.daughters; known = p.known }) popped w (subst (Follows t c.args.here) is f)

pub returns : goal.returns
returns c = λ t whole arities formed w f.
    let a = c.in-Here-Lacking.is in
    let b = c.in-Here-Lacking.field-0-is in
    let d = c.in-Here-Lacking.lack-is in
    let is : c.args.next ≡ Here (outcomes.Lacking c.in-Here-Lacking.lack) = cc in
    walk_lacks t whole arities formed c.args.waiting.now.items c.args.here c.in-Here-Lacking.lack (left_of c.args.waiting.now.items c.args.here) w (subst (Follows t c.args.here) is f)
