use Rattle.std.proofs.Common.{ℕ, ◌+◌, ◌++◌, [], ◌∷◌, Option, Vec, Global, add-one, arith, sym, subst, take}
use Rattle.std.proofs.lemmas.List.{take_all}
use Rattle.side_by_side.specs.Works.{AreGiven, no_thing}
use Rattle.endings.specs.declared.lines.Answer.{Answer}
use Rattle.endings.specs.Inner.Batches.{IsTold}
use Rattle.endings.proofs.ToldLines.{given-more}
use Rattle.endings.proofs.answering.answer_in_turn.Goals as goal

pub loop-place-init : goal.loop-place-init
loop-place-init g c =
    let gives = λ (place : ℕ) (line : Vec ℕ Global) (a : Option Answer). IsTold (g.C.Answers.IsAnswer c.args.command.now) (g.C.Answers.IsNote c.args.command.now) (c.args.number + place) line.items a in
    let room = c.in_ok-told.ensures.capacity in
    record { given = subst (AreGiven gives 0 []) (sym c.in_ok-told.ensures.items) (no_thing 0); count = c.in_ok-told.ensures.len; room = omega (arith, room) }

pub push_reserved-requires : goal.push_reserved-requires
push_reserved-requires g c =
    let count = c.loop-place.invariant.count in
    let room = c.loop-place.invariant.room in
    let t = c.loop-place-test.true in
    omega (arith, count, room, t)

pub loop-place-preserved : goal.loop-place-preserved
loop-place-preserved g c =
    let gives = λ (place : ℕ) (line : Vec ℕ Global) (a : Option Answer). IsTold (g.C.Answers.IsAnswer c.args.command.now) (g.C.Answers.IsNote c.args.command.now) (c.args.number + place) line.items a in
    let place = c.loop-place.place in
    let t = c.loop-place-test.true in
    let told = subst (λ l. IsTold (g.C.Answers.IsAnswer c.args.command.now) (g.C.Answers.IsNote c.args.command.now) (c.args.number + place) l c.told_alone.result) c.deref.ensures.value c.told_alone.ensures in
    let more = given-more gives 0 c.args.lines.now c.loop-place.told.items place c.index-lines-place.result c.told_alone.result place c.loop-place.invariant.given t (sym c.index-lines-place.is) (omega arith) told in
    let count = c.loop-place.invariant.count in
    let room = c.loop-place.invariant.room in
    let len = c.push_reserved.ensures.len in
    let cap = c.push_reserved.ensures.capacity in
    record {
      given = subst (AreGiven gives 0 (take (place + 1) c.args.lines.now)) (sym c.push_reserved.ensures.items) (subst (λ k. AreGiven gives 0 (take k c.args.lines.now) (c.loop-place.told.items ++ c.told_alone.result ∷ [])) (sym (add-one place)) more);
      count = omega (arith, count, len);
      room = omega (arith, room, cap);
    }

pub returns : goal.returns
returns g c =
    let gives = λ (place : ℕ) (line : Vec ℕ Global) (a : Option Answer). IsTold (g.C.Answers.IsAnswer c.args.command.now) (g.C.Answers.IsNote c.args.command.now) (c.args.number + place) line.items a in
    let t = c.loop-place-test.false in
    subst (λ ls. AreGiven gives 0 ls c.loop-place.told.items) (take_all c.loop-place.place c.args.lines.now (omega (arith, t))) c.loop-place.invariant.given
