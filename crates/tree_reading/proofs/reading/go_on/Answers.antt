use Rattle.std.proofs.Common.{◌∙◌, sym, subst}
use Rattle.tree_reading.specs.Inner.Begun.{IsBefore}
use Rattle.tree_reading.proofs.Rising.{under, gone, stop_full}
use Rattle.tree_reading.proofs.reading.go_on.Goals as goal

pub returns-in_default-clause-stopped : goal.returns-in_default-clause-stopped
returns-in_default-clause-stopped c = λ g whole after well entry shut.
    stop_full g well entry c.args.stack.now.items c.args.rule c.args.child whole c.args.text.now (under g c.args.stack.now.items c.args.rule c.args.child whole c.args.text.now after) shut (λ b. absurd (c.in_default.ensures b))

pub returns-then-not-has_room-clause-stopped : goal.returns-then-not-has_room-clause-stopped
returns-then-not-has_room-clause-stopped c = λ g whole after well entry shut.
    stop_full g well entry c.args.stack.now.items c.args.rule c.args.child whole c.args.text.now (under g c.args.stack.now.items c.args.rule c.args.child whole c.args.text.now after) shut
    (λ b. sym c.has_room.ensures ∙ c.if-not-has_room.true)

pub returns-clause-read : goal.returns-clause-read
returns-clause-read c = λ g whole after well.
    subst (λ t. IsBefore g t whole c.in-Some.rest.now) (sym c.in_ok-push.ensures.items)
    (gone g c.args.stack.now.items c.args.rule c.in_ok-with_daughter.field-0 c.args.child whole c.args.text.now c.in-Some.rest.now (under g c.args.stack.now.items c.args.rule c.args.child whole c.args.text.now after)
    c.in-Some.ensures c.in_ok-with_daughter.ensures.rules c.in_ok-with_daughter.ensures.trees c.in_ok-with_daughter.ensures.counted (sym c.has_room.ensures ∙ c.if-not-has_room.false))
