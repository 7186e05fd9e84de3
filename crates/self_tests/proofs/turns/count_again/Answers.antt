use Rattle.std.proofs.Common.{ℕ, sym, subst, Vec, Global, arith}
use Rattle.std.specs.Str.{IsUtf8}
use Rattle.packed_items.specs.Answers.{limits_in}
use Rattle.engine.specs.Views.{speech_of}
use Rattle.side_by_side.specs.Works.{AreGiven}
use Rattle.self_tests.specs.declared.counts.Count.{Count}
use Rattle.self_tests.specs.Inner.Counts.{MayBeCounted}
use Rattle.self_tests.proofs.GivenAt.{within, set-at}
use Rattle.self_tests.proofs.turns.count_again.Goals as goal
use Rattle.self_tests.proofs.turns.count_again.Goals.{then-eq, else-eq}

pub index-requires : goal.index-requires
index-requires g c =
    let inside = within _ c.args.lines.now c.loop-place.counts.items c.loop-place.place c.loop-place.invariant c.loop-place-test.true in
    omega (arith, inside)

pub index_mut-requires : goal.index_mut-requires
index_mut-requires g c =
    let inside = within _ c.args.lines.now c.loop-place.counts.items c.loop-place.place c.loop-place.invariant c.loop-place-test.true in
    omega (arith, inside)

pub counted-requires-clause-text : goal.counted-requires-clause-text
counted-requires-clause-text g c κs within =
    let there = c.requires.text c.loop-place.place c.index-lines-place.result c.loop-place-test.true in
    subst IsUtf8 (sym c.deref.ensures.value) (subst (λ (line : Vec ℕ Global). IsUtf8 line.items) (sym c.index-lines-place.is) there)

pub loop-place-preserved : goal.loop-place-preserved
loop-place-preserved g c =
    let j = c.args.counter.now in
    let gives : ℕ → Vec ℕ Global → Count → Type 0 = λ place line count. MayBeCounted (speech_of j.engine.now) (limits_in j.limits.now) j.limits.now.lexical line.items count in
    elim c.if-eq.branch [
      | then-eq w ↦
          let counted = subst (λ l. MayBeCounted (speech_of j.engine.now) (limits_in j.limits.now) j.limits.now.lexical l w.counted.result) w.deref.ensures.value w.counted.ensures in
          subst (λ (v : Vec Count Global). AreGiven gives 0 c.args.lines.now v.items) (sym w.counts-is)
          (set-at gives c.args.lines.now c.loop-place.counts.items c.loop-place.place w.index-lines-place.result w.counted.result c.loop-place.invariant c.loop-place-test.true (sym w.index-lines-place.is) counted)
      | else-eq w ↦ subst (λ (v : Vec Count Global). AreGiven gives 0 c.args.lines.now v.items) (sym w.counts-is) c.loop-place.invariant
    ]
