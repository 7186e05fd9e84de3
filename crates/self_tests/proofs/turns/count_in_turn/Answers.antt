use Rattle.std.proofs.Common.{ℕ, ◌+◌, List, [], Vec, Global, sym, subst, take, arith}
use Rattle.std.specs.Str.{IsUtf8}
use Rattle.packed_items.specs.Answers.{limits_in}
use Rattle.engine.specs.Views.{speech_of}
use Rattle.side_by_side.specs.Works.{AreGiven, no_thing}
use Rattle.self_tests.specs.declared.counts.Count.{Count}
use Rattle.self_tests.specs.Inner.Counts.{MayBeCounted}
use Rattle.self_tests.proofs.GivenAt.{long-at, more-at, whole-at}
use Rattle.self_tests.proofs.turns.count_in_turn.Goals as goal

pub loop-place-init : goal.loop-place-init
loop-place-init g c =
    let j = c.args.counter.now in
    let gives : ℕ → Vec ℕ Global → Count → Type 0 = λ place line count. MayBeCounted (speech_of j.engine.now) (limits_in j.limits.now) j.limits.now.lexical line.items count in
    record {
      given = subst (λ rs. AreGiven gives 0 [] rs) (sym c.in_ok-counts.ensures.items) (no_thing 0);
      room = c.in_ok-counts.ensures.capacity;
    }

pub push_reserved-requires : goal.push_reserved-requires
push_reserved-requires g c =
    let long = long-at _ c.args.lines.now c.loop-place.counts.items c.loop-place.place c.loop-place.invariant.given c.loop-place-test.true in
    let t = c.loop-place-test.true in
    let room = c.loop-place.invariant.room in
    omega (arith, long, t, room)

pub counted-requires-clause-text : goal.counted-requires-clause-text
counted-requires-clause-text g c κs within =
    let there = c.requires.text c.loop-place.place c.index-lines-place.result c.loop-place-test.true in
    subst IsUtf8 (sym c.deref.ensures.value) (subst (λ (line : Vec ℕ Global). IsUtf8 line.items) (sym c.index-lines-place.is) there)

pub loop-place-preserved : goal.loop-place-preserved
loop-place-preserved g c =
    let j = c.args.counter.now in
    let gives : ℕ → Vec ℕ Global → Count → Type 0 = λ place line count. MayBeCounted (speech_of j.engine.now) (limits_in j.limits.now) j.limits.now.lexical line.items count in
    let place = c.loop-place.place in
    let counted = subst (λ l. MayBeCounted (speech_of j.engine.now) (limits_in j.limits.now) j.limits.now.lexical l c.counted.result) c.deref.ensures.value c.counted.ensures in
    record {
      given = subst (λ rs. AreGiven gives 0 (take (place + 1) c.args.lines.now) rs) (sym {A = List Count} c.push_reserved.ensures.items)
          (more-at gives c.args.lines.now c.loop-place.counts.items place c.index-lines-place.result c.counted.result c.loop-place.invariant.given c.loop-place-test.true (sym c.index-lines-place.is) counted);
      room = (let room = c.loop-place.invariant.room in let same = c.push_reserved.ensures.capacity in omega (arith, room, same));
    }

pub returns : goal.returns
returns g c = whole-at _ c.args.lines.now c.loop-place.counts.items c.loop-place.place c.loop-place.invariant.given (omega (arith, c.loop-place-test.false))
