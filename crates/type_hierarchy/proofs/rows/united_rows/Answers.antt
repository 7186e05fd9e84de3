use Rattle.std.proofs.Common.{sym, subst}
use Rattle.type_hierarchy.specs.Inner.Reach.{lists}
use Rattle.type_hierarchy.specs.Inner.Rows.{HoldBelow}
use Rattle.type_hierarchy.proofs.RaiseLemmas.{held_first}
use Rattle.type_hierarchy.proofs.rows.united_rows.Goals as goal

pub raise_all-requires-clause-held : goal.raise_all-requires-clause-held
raise_all-requires-clause-held c =
    subst (λ l. HoldBelow (lists c.args.parents.now) (lists l)) (sym c.deref_mut.ensures.value) (held_first (lists c.args.parents.now) (lists c.in_ok-rows.rows.items) c.in_ok-rows.ensures.own)
