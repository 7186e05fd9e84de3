use Rattle.std.proofs.Common.{◌≡◌, ◌∙◌, length, All, sym, ap, subst, arith}
use Rattle.type_hierarchy.specs.Bits.{has_bit, IsRow}
use Rattle.type_hierarchy.specs.Table.{TypeTable, has_member, set_of}
use Rattle.type_hierarchy.specs.Inner.Reach.{lists}
use Rattle.type_hierarchy.specs.Inner.Rows.{row_at}
use Rattle.type_hierarchy.proofs.TypeLemmas.{table_member}
use Rattle.type_hierarchy.proofs.hierarchy.Hierarchy.rows_above.Goals as goal

pub transpose-requires-clause-few : goal.transpose-requires-clause-few
transpose-requires-clause-few c = omega (arith, ap length c.deref.ensures.value, c.self.invariant.laws.few)

pub transpose-requires-clause-rows : goal.transpose-requires-clause-rows
transpose-requires-clause-rows c =
    subst (λ n. All (λ row. IsRow n row.items) c.deref.result.now) (ap (λ (t : TypeTable). t.written) c.self.view_is ∙ sym c.count.ensures.count)
    (subst (λ l. All (λ row. IsRow (length c.self.inside.rows.items) row.items) l) (sym c.deref.ensures.value) c.self.invariant.rows_are)

pub returns-clause-rows : goal.returns-clause-rows
returns-clause-rows c = subst (λ n. All (λ row. IsRow n row.items) c.in_ok-rows.rows.items) (ap length c.deref.ensures.value ∙ ap (λ (t : TypeTable). t.written) c.self.view_is) c.in_ok-rows.ensures.rows_are

pub returns-clause-size : goal.returns-clause-size
returns-clause-size c = c.in_ok-rows.ensures.one_each ∙ c.count.ensures.count

pub returns-clause-members : goal.returns-clause-members
returns-clause-members c = λ t in_t u in_u.
    let written : length c.self.inside.rows.items ≡ c.args.self.now.written = ap (λ (x : TypeTable). x.written) c.self.view_is in
    let size = ap length c.deref.ensures.value in
    c.in_ok-rows.ensures.told t u (omega (arith, in_t, c.count.ensures.count)) (omega (arith, in_u, written, size))
    ∙ ap (λ l. has_bit (row_at (lists l) u) t) c.deref.ensures.value
    ∙ sym (table_member c.self.inside.names.items c.self.inside.rows.items (length c.self.inside.rows.items) c.self.inside.string_type u t (omega (arith, in_u, written)) (omega (arith, in_t, written)))
    ∙ ap (λ x. has_member (set_of x u) t) c.self.view_is
