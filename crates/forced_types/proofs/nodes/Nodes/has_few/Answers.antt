use Rattle.std.proofs.Common.{◌+◌, ◌∷◌, ◌++◌, [], ◌∙◌, ap, arith}
use Rattle.forced_types.proofs.CountLemmas.{filled, begun, live_end, went_on, counts_few, counts_many}
use Rattle.forced_types.proofs.nodes.Nodes.has_few.Goals as goal

pub loop-at-init : goal.loop-at-init
loop-at-init c =
    begun c.args.given c.args.self.now c.push.new.self.items
    (c.in_ok-push.ensures.items ∙ ap (λ l. l ++ record { node = c.up-node.result; size = 0 } ∷ []) c.new-ends.ensures.items ∙ ap (λ n. record { node = n; size = 0 } ∷ []) c.up-node.ensures)

pub go_on-requires-clause-at : goal.go_on-requires-clause-at
go_on-requires-clause-at c = omega (arith, c.if-at-len.false)

pub go_on-requires-clause-node : goal.go_on-requires-clause-node
go_on-requires-clause-node c =
    (live_end c.args.given c.args.self.now c.requires.flat (filled c.args.given c.args.self.now c.requires.sound) c.loop-at.ends.items c.loop-at.at c.loop-at.at c.loop-at.invariant
    (omega (arith, c.if-at-len.false))).0

pub returns-then-at-len : goal.returns-then-at-len
returns-then-at-len c =
    counts_few c.args.given c.args.self.now c.requires.flat (filled c.args.given c.args.self.now c.requires.sound) c.loop-at.ends.items c.loop-at.at c.args.limit c.loop-at.invariant
    (omega (arith, c.if-at-len.true)) (omega (arith, c.if-at-len.true, c.loop-at-test.true))

pub returns-then-len-most : goal.returns-then-len-most
returns-then-len-most c =
    counts_many c.args.given c.args.self.now c.go_on.new.ends.items (c.loop-at.at + 1) c.args.limit
    (went_on c.args.given c.args.self.now c.requires.flat (filled c.args.given c.args.self.now c.requires.sound) c.loop-at.ends.items c.go_on.new.ends.items c.loop-at.at c.requires.sound
    c.loop-at.invariant (omega (arith, c.if-at-len.false)) c.in_ok-go_on.ensures.on c.in_ok-go_on.ensures.stay) (omega (arith, c.if-len-most.true))

pub loop-at-preserved : goal.loop-at-preserved
loop-at-preserved c =
    went_on c.args.given c.args.self.now c.requires.flat (filled c.args.given c.args.self.now c.requires.sound) c.loop-at.ends.items c.go_on.new.ends.items c.loop-at.at c.requires.sound
    c.loop-at.invariant (omega (arith, c.if-at-len.false)) c.in_ok-go_on.ensures.on c.in_ok-go_on.ensures.stay

pub returns-then-len-most-2 : goal.returns-then-len-most-2
returns-then-len-most-2 c = counts_many c.args.given c.args.self.now c.loop-at.ends.items c.loop-at.at c.args.limit c.loop-at.invariant (omega (arith, c.if-len-most-2.true))

pub returns : goal.returns
returns c =
    counts_few c.args.given c.args.self.now c.requires.flat (filled c.args.given c.args.self.now c.requires.sound) c.loop-at.ends.items c.loop-at.at c.args.limit c.loop-at.invariant
    (omega (arith, c.if-len-most-2.false, c.loop-at-test.false)) (omega (arith, c.if-len-most-2.false))
