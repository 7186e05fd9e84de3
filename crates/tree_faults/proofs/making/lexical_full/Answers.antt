use Rattle.std.proofs.Common.{◌≡◌, ◌+◌, ◌-◌, length, take, refl, subst, arith}
use Rattle.std.proofs.lemmas.List.{take_all}
use Rattle.tree_model.specs.Lexical.{FullLexical}
use Rattle.tree_model.specs.Trees.{full_lexical}
use Rattle.book_signs.specs.Trees.{signs_of}
use Rattle.tree_structures.specs.Known.{view_of}
use Rattle.tree_faults.proofs.Climbed.{one_part, climb_first, climb_made, climb_has, climb_next, climb_lacks}
use Rattle.tree_faults.proofs.making.lexical_full.Goals as goal

pub loop-i-init : goal.loop-i-init
loop-i-init c = climb_first c.args.signs.now c.args.entry c.args.rules.now (view_of c.args.signs.now c.in_ok-full.full) c.in_ok-full.ensures

pub mother_at-requires-clause-made : goal.mother_at-requires-clause-made
mother_at-requires-clause-made c =
    let n = c.no_parts.ensures in
    let one = one_part c.no_parts.result c.with_part-below.result c.loop-i.full n.parts n.count n.none c.with_part-below.ensures in
    climb_made c.args.signs.now c.args.entry c.args.rules.now (take c.loop-i.i c.args.rules.now) c.with_part-below.result c.loop-i.full one.2 c.loop-i.invariant

pub mother_at-requires-clause-rule : goal.mother_at-requires-clause-rule
mother_at-requires-clause-rule c =
    let n = c.no_parts.ensures in
    let one = one_part c.no_parts.result c.with_part-below.result c.loop-i.full n.parts n.count n.none c.with_part-below.ensures in
    climb_has c.args.signs.now c.args.entry c.args.rules.now c.laws.ensures.arities c.loop-i.i c.loop-i-test.true c.requires.rules c.loop-i.full c.loop-i.invariant c.with_part-below.result.count one.1

pub returns-in-Lacking : goal.returns-in-Lacking
returns-in-Lacking c = λ words nodes.
    let n = c.no_parts.ensures in
    let one = one_part c.no_parts.result c.with_part-below.result c.loop-i.full n.parts n.count n.none c.with_part-below.ensures in
    let low = c.loop-i-test.true in
    let m = rw c.in-Lacking.is at c.in_ok-above.ensures in
    let instance : c.in-Lacking.lack.instance ≡ c.in-Lacking.lack.instance = refl in
    let verdict : c.in-Lacking.lack.verdict ≡ c.in-Lacking.lack.verdict = refl in
    let deep : (length c.args.rules.now - 1 - c.loop-i.i) + 1 + c.loop-i.i ≡ length c.args.rules.now = omega (arith, low) in
    climb_lacks c.args.signs.now c.args.entry c.args.rules.now c.laws.ensures.arities c.loop-i.i low c.requires.rules c.loop-i.full c.loop-i.invariant c.laws.ensures.order c.with_part-below.result c.in-Lacking.lack _ one.2 m.1 m.2 instance verdict deep words nodes

pub loop-i-preserved : goal.loop-i-preserved
loop-i-preserved c =
    let n = c.no_parts.ensures in
    let one = one_part c.no_parts.result c.with_part-below.result c.loop-i.full n.parts n.count n.none c.with_part-below.ensures in
    climb_next c.args.signs.now c.args.entry c.args.rules.now c.laws.ensures.arities c.loop-i.i c.loop-i-test.true c.requires.rules c.loop-i.full c.loop-i.invariant c.with_part-below.result c.in-Full.above one.2 (rw c.in-Full.is at c.in_ok-above.ensures)

pub returns : goal.returns
returns c = λ words nodes.
    let t = c.args.signs.now in
    full_lexical (subst (λ rs. FullLexical (signs_of t) c.args.entry rs (view_of t c.loop-i.full)) (take_all c.loop-i.i c.args.rules.now (omega arith)) c.loop-i.invariant)
