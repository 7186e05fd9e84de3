use Rattle.std.proofs.Common.{ℕ, ◌≡◌, ◌<◌, ◌∙◌, ◌==◌, ◌||◌, cond, inl, inr, true, length, ap, sym, arith}
use Rattle.std.proofs.lemmas.List.{length-map}
use Rattle.type_hierarchy.specs.Bits.{has_bit, bits_below}
use Rattle.type_hierarchy.specs.Table.{TypeTable, is_below, is_set_below}
use Rattle.type_hierarchy.specs.Inner.Tables.{types_table}
use Rattle.type_hierarchy.proofs.RowLemmas.{row_is}
use Rattle.type_hierarchy.proofs.SetLemmas.{or_cases, or_left, lt_true}
use Rattle.type_hierarchy.proofs.TypeLemmas.{table_member, member_below}
use Rattle.type_hierarchy.proofs.types.Types.pass_above.Goals as goal

pub returns-then-x-self-clause-passed : goal.returns-then-x-self-clause-passed
returns-then-x-self-clause-passed c =
    let i = c.self.inside in
    let x = c.args.x in
    let t = types_table i.names.items i.sets.keys i.written i.string_type in
    let size = length-map i.sets.keys (λ row. bits_below i.written row.items) in
    let column = row_is i.columns.items x c.index.result.now (omega (arith, c.if-x-self.true, c.self.invariant.columns_are.one_each)) c.index.ensures in
    let is : (b : ℕ) → b < length t.sets → has_bit c.deref.result.now b ≡ true → is_below c.args.self.now x b ≡ true =
    λ b l m.
    let b_key : b < length i.sets.keys = omega (arith, l, size) in
    let x_set : x < length t.sets = omega (arith, c.if-x-self.true, c.self.invariant.order.written_first) in
    let set = sym (member_below t c.self.invariant.order x b c.if-x-self.true l) ∙ table_member i.names.items i.sets.keys i.written i.string_type b x b_key c.if-x-self.true
    ∙ sym (c.self.invariant.columns_are.told x b c.if-x-self.true b_key) ∙ ap (λ q. has_bit q b) (column ∙ sym c.deref.ensures.value) ∙ m in
    ap (λ (q : TypeTable). is_below q x b) (sym c.self.view_is) ∙ ap (λ p. cond p (is_set_below t x b) ((x == b) || is_set_below t t.string_type b)) (lt_true x (length t.sets) x_set) ∙ set in
    record {
      kept = λ b m. c.extend.ensures.has b ∙ or_left (has_bit c.args.passed.now.items b) _ m;
      added = λ b l m. elim (or_cases (has_bit c.args.passed.now.items b) (has_bit c.deref.result.now b) (sym (c.extend.ensures.has b) ∙ m)) [
        | inl q ↦ inl q
        | inr q ↦ inr (is b (omega (arith, l, ap (λ (q : TypeTable). length q.sets) c.self.view_is)) q)
      ];
    }
