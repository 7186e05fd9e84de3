use Rattle.std.proofs.Common.{◌≡◌, ◌<◌, ◌∙◌, true, ap, sym, subst, arith, length}
use Rattle.std.proofs.lemmas.List.{length-map}
use Rattle.type_hierarchy.specs.Bits.{has_bit, bits_below}
use Rattle.type_hierarchy.specs.Table.{TypeTable, set_of, has_member, is_below}
use Rattle.type_hierarchy.specs.Inner.Tables.{types_table}
use Rattle.type_hierarchy.proofs.TypeLemmas.{row_at_is, table_member}
use Rattle.type_hierarchy.proofs.CandidateLemmas.{string_in, member_in, some_bit}
use Rattle.type_hierarchy.proofs.types.Types.written_below.Goals as goal

pub returns-then-t-len-clause-member : goal.returns-then-t-len-clause-member
returns-then-t-len-clause-member c = λ b b_in e.
    let t = types_table c.self.inside.names.items c.self.inside.sets.keys c.self.inside.written c.self.inside.string_type in
    let size = length-map c.self.inside.sets.keys (λ row. bits_below c.self.inside.written row.items) in
    subst (λ x. has_member (set_of x b) c.self.inside.string_type ≡ true) c.self.view_is
    (string_in t c.self.invariant.order c.args.t b (omega (arith, size, c.if-t-len.true, c.len.ensures)) (omega (arith, b_in, ap (λ (x : TypeTable). length x.sets) c.self.view_is))
    (ap (λ x. is_below x c.args.t b) c.self.view_is ∙ e))

pub returns-then-t-self-clause-member : goal.returns-then-t-self-clause-member
returns-then-t-self-clause-member c = λ b b_in e.
    let t = types_table c.self.inside.names.items c.self.inside.sets.keys c.self.inside.written c.self.inside.string_type in
    subst (λ x. has_member (set_of x b) c.args.t ≡ true) c.self.view_is
    (member_in t c.self.invariant.order c.args.t b c.args.t (omega (arith, c.if-t-self.true, c.self.invariant.order.written_first)) (c.self.invariant.order.own c.args.t c.if-t-self.true)
    (ap (λ x. is_below x c.args.t b) c.self.view_is ∙ e))

pub next-requires-clause-within : goal.next-requires-clause-within
next-requires-clause-within c =
    let t_in : c.args.t < length c.self.inside.sets.keys = omega (arith, c.if-t-len.false, c.len.ensures) in
    let row = row_at_is _ c.self.inside.sets.keys c.args.t c.self.invariant.rows_are t_in in
    omega (arith, row.enough, ap length c.row.ensures)

pub returns-clause-written : goal.returns-clause-written
returns-clause-written c =
    let size = length-map c.self.inside.sets.keys (λ row. bits_below c.self.inside.written row.items) in
    let t_in : c.args.t < length c.self.inside.sets.keys = omega (arith, c.if-t-len.false, c.len.ensures) in
    let x_in = some_bit c.self.inside.names.items c.self.inside.sets.keys c.self.inside.written c.self.inside.string_type c.args.t c.next.result c.self.invariant.order t_in (omega (arith, t_in, size)) c.next.ensures.high
    (λ y l. ap (λ w. has_bit w y) (sym c.row.ensures) ∙ c.next.ensures.none_before y (omega arith) l) in
    omega (arith, x_in, ap (λ (x : TypeTable). x.written) c.self.view_is)

pub returns-clause-member : goal.returns-clause-member
returns-clause-member c = λ b b_in e.
    let size = length-map c.self.inside.sets.keys (λ row. bits_below c.self.inside.written row.items) in
    let t = types_table c.self.inside.names.items c.self.inside.sets.keys c.self.inside.written c.self.inside.string_type in
    let t_in : c.args.t < length c.self.inside.sets.keys = omega (arith, c.if-t-len.false, c.len.ensures) in
    let x_in = some_bit c.self.inside.names.items c.self.inside.sets.keys c.self.inside.written c.self.inside.string_type c.args.t c.next.result c.self.invariant.order t_in (omega (arith, t_in, size)) c.next.ensures.high
    (λ y l. ap (λ w. has_bit w y) (sym c.row.ensures) ∙ c.next.ensures.none_before y (omega arith) l) in
    let member = table_member c.self.inside.names.items c.self.inside.sets.keys c.self.inside.written c.self.inside.string_type c.args.t c.next.result t_in x_in
    ∙ ap (λ w. has_bit w c.next.result) (sym c.row.ensures) ∙ c.next.ensures.member x_in in
    subst (λ x. has_member (set_of x b) c.next.result ≡ true) c.self.view_is
    (member_in t c.self.invariant.order c.args.t b c.next.result (omega (arith, t_in, size)) member (ap (λ x. is_below x c.args.t b) c.self.view_is ∙ e))
