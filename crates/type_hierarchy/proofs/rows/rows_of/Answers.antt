use Rattle.std.proofs.Common.{subst, arith}
use Rattle.std.proofs.lemmas.List.{length-map}
use Rattle.type_hierarchy.specs.Inner.Reach.{lists}
use Rattle.type_hierarchy.specs.Inner.Rows.{AreClosed}
use Rattle.type_hierarchy.proofs.RaiseLemmas.{closed_holds, parents_in}
use Rattle.type_hierarchy.proofs.rows.rows_of.Goals as goal

pub returns-then-are_closed-clause-order : goal.returns-then-are_closed-clause-order
returns-then-are_closed-clause-order c = closed_holds (lists c.args.parents.now) (lists c.in_ok-rows.rows.items)
    (λ t p h. omega (arith, parents_in _ c.args.parents.now c.requires.range t p h, c.in_ok-rows.ensures.one_each, length-map c.in_ok-rows.rows.items (λ v. v.items)))
    c.in_ok-rows.ensures.held (subst (λ l. AreClosed (lists c.args.parents.now) (lists l)) c.deref.ensures.value (c.are_closed.ensures c.if-are_closed.true))
