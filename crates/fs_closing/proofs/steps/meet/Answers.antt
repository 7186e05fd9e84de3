use Rattle.std.proofs.Common.{◌≡◌, true, sym, ◌∙◌, ap, subst, arith}
use Rattle.type_hierarchy.specs.Table.{TypeTable, count_of, is_below, meet_of}
use Rattle.type_hierarchy.specs.Laws.{HasTypeLaws}
use Rattle.fs_closing.proofs.OrderLemmas.{meet_right, meet_left}
use Rattle.fs_closing.proofs.steps.meet.Goals as goal

pub returns-then-a-eq0-clause-value : goal.returns-then-a-eq0-clause-value
returns-then-a-eq0-clause-value c =
    let types = c.args.system.now.types in
    let laws = subst HasTypeLaws c.types-types.ensures c.laws.ensures in
    sym (meet_right types laws c.args.a c.args.b (subst (λ k. is_below types c.args.b k ≡ true) (sym c.if-a-eq0.true) (laws.below_top c.args.b)))

pub returns-then-a-b-clause-value : goal.returns-then-a-b-clause-value
returns-then-a-b-clause-value c =
    let types = c.args.system.now.types in
    let laws = subst HasTypeLaws c.types-types.ensures c.laws.ensures in
    sym (meet_right types laws c.args.a c.args.b (subst (λ k. is_below types c.args.b k ≡ true) (sym c.if-a-b.true) (laws.reflexive c.args.b)))

pub returns-then-b-eq0-clause-value : goal.returns-then-b-eq0-clause-value
returns-then-b-eq0-clause-value c =
    let types = c.args.system.now.types in
    let laws = subst HasTypeLaws c.types-types.ensures c.laws.ensures in
    sym (meet_left types laws c.args.a c.args.b (subst (λ k. is_below types c.args.a k ≡ true) (sym c.if-b-eq0.true) (laws.below_top c.args.a)))

pub returns-in_default-clause-value : goal.returns-in_default-clause-value
returns-in_default-clause-value c =
    c.in_default.ensures ∙ ap (λ (t : TypeTable). meet_of t c.args.a c.args.b) c.types-types.ensures

pub returns-clause-value : goal.returns-clause-value
returns-clause-value c = c.in-Some.ensures ∙ ap (λ (t : TypeTable). meet_of t c.args.a c.args.b) c.types-types.ensures

pub returns-clause-within : goal.returns-clause-within
returns-clause-within c =
    let same = ap count_of c.types-types.ensures in
    omega (
      arith,
      c.laws.ensures.meet_in c.args.a c.args.b c.in-Some.met.0 (omega (arith, c.requires.a_in, same)) (omega (arith, c.requires.b_in, same))
          (sym c.in-Some.ensures),
      same,
    )
