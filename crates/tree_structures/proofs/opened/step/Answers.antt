use Rattle.std.proofs.Common.{◌≡◌, length, ap, subst, ◌∙◌, ◌++◌, arith}
use Rattle.std.specs.Prelude.{option_to_list}
use Rattle.tree_structures.specs.Inner.Walks.{Follows, left_of}
use Rattle.tree_structures.proofs.Steps.{walk_down, walk_leaf, walk_up, walk_done, walk_stuck}
use Rattle.tree_structures.proofs.opened.step.Goals as goal

pub returns-in_ok-push-in-Down : goal.returns-in_ok-push-in-Down
returns-in_ok-push-in-Down c = λ t memo whole arities formed w f.
    walk_down t memo whole arities formed c.args.waiting.now.items c.push.new.self.items c.args.here c.in-Down.below w (subst (Follows t memo c.args.here) c.in-Down.is f) c.in_ok-push-in-Down.ensures.items

pub returns-in-Leaf : goal.returns-in-Leaf
returns-in-Leaf c = λ t memo whole arities formed w f.
    walk_leaf t memo whole arities formed c.args.waiting.now.items c.args.here c.with.result c.in-Leaf.number c.with.ensures.rule c.with.ensures.daughters c.with.ensures.known c.with.ensures.count w (subst (Follows t memo c.args.here) c.in-Leaf.is f)

pub returns-in-Some : goal.returns-in-Some
returns-in-Some c = λ t memo whole arities formed w f.
    let popped = c.pop.ensures.items ∙ ap (λ o. c.pop.new.self.items ++ option_to_list o) c.in-Some.is in
    walk_up t memo whole arities formed c.pop.new.self.items c.in-Some.above c.with-in-Some.result c.in-Made.number c.with-in-Some.ensures.rule c.with-in-Some.ensures.daughters c.with-in-Some.ensures.known c.with-in-Some.ensures.count c.args.waiting.now.items c.args.here popped w (subst (Follows t memo c.args.here) c.in-Made.is f)

pub returns-in-None : goal.returns-in-None
returns-in-None c = λ t memo whole arities formed w f.
    let none = rw c.in-None.is at c.pop.ensures.cases in
    let empty : length c.args.waiting.now.items ≡ 0 = omega (arith, none.0, c.args.waiting.now.ok) in
    walk_done t memo whole arities formed c.args.waiting.now.items c.pop.new.self.items c.args.here c.in-Made.number (left_of c.args.waiting.now.items c.args.here) empty w (subst (Follows t memo c.args.here) c.in-Made.is f)

pub returns-in-Never : goal.returns-in-Never
returns-in-Never c = λ t memo whole arities formed w f.
    walk_stuck t memo whole arities formed c.args.waiting.now.items c.args.waiting.now.items c.args.here (left_of c.args.waiting.now.items c.args.here) w (subst (Follows t memo c.args.here) c.in-Never.is f)
