use Rattle.std.proofs.Common.{◌≡◌, true, subst, arith}
use Rattle.type_hierarchy.specs.Bits.{has_bit}
use Rattle.type_hierarchy.specs.Inner.Reach.{lists}
use Rattle.type_hierarchy.specs.Inner.Rows.{row_at}
use Rattle.type_hierarchy.proofs.RaiseLemmas.{Has-index}
use Rattle.type_hierarchy.proofs.rows.are_above.Goals as goal

pub returns : goal.returns
returns c = λ _ p x h e. let i = Has-index p c.args.parents.now h in subst (λ q. has_bit (row_at (lists c.args.rows.now) q) x ≡ true) i.2 (c.loop-parent.invariant i.0 x (omega (arith, i.1)) e)
