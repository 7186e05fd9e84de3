use Rattle.std.proofs.Common.{ℕ, ◌+◌, sym, subst, Option, Vec, Global, arith}
use Rattle.side_by_side.specs.Works.{AreGiven}
use Rattle.endings.specs.declared.lines.Answer.{Answer}
use Rattle.endings.specs.Inner.Batches.{IsTold}
use Rattle.endings.proofs.ToldLines.{given-length, given-set}
use Rattle.endings.proofs.answering.answer_again.Goals as goal
use Rattle.endings.proofs.answering.answer_again.Goals.{then-is_none+in-Some-1, then-is_none+in-None-1, else-is_none}

pub loop-place-init : goal.loop-place-init
loop-place-init g c = c.requires.told

pub index-requires : goal.index-requires
index-requires g c =
    let e = given-length _ 0 c.args.lines.now c.loop-place.told.items c.loop-place.invariant in
    let t = c.loop-place-test.true in
    omega (arith, e, t)

pub index_mut-requires : goal.index_mut-requires
index_mut-requires g c =
    let e = given-length _ 0 c.args.lines.now c.loop-place.told.items c.loop-place.invariant in
    let t = c.loop-place-test.true in
    omega (arith, e, t)

pub loop-place-preserved : goal.loop-place-preserved
loop-place-preserved g c = elim c.if-is_none.branch [
  | then-is_none+in-Some-1 w ↦ (
      let gives = λ (place : ℕ) (line : Vec ℕ Global) (a : Option Answer). IsTold (g.C.Answers.IsAnswer c.args.command.now) (g.C.Answers.IsNote c.args.command.now) (c.args.number + place) line.items a in
      let t = c.loop-place-test.true in
      let told = subst (λ l. IsTold (g.C.Answers.IsAnswer c.args.command.now) (g.C.Answers.IsNote c.args.command.now) (c.args.number + c.loop-place.place) l w.told_by_one.result) w.deref.ensures.value w.told_by_one.ensures in
      subst (λ (v : Vec (Option Answer) Global). AreGiven gives 0 c.args.lines.now v.items) (sym w.told-is)
      (given-set gives 0 c.args.lines.now c.loop-place.told.items c.loop-place.place w.index-lines-place.result w.told_by_one.result c.loop-place.place c.loop-place.invariant t (sym w.index-lines-place.is) (omega arith) told))
  | then-is_none+in-None-1 w ↦ (
      let gives = λ (place : ℕ) (line : Vec ℕ Global) (a : Option Answer). IsTold (g.C.Answers.IsAnswer c.args.command.now) (g.C.Answers.IsNote c.args.command.now) (c.args.number + place) line.items a in
      let t = c.loop-place-test.true in
      let told = subst (λ l. IsTold (g.C.Answers.IsAnswer c.args.command.now) (g.C.Answers.IsNote c.args.command.now) (c.args.number + c.loop-place.place) l w.told_by_one.result) w.deref.ensures.value w.told_by_one.ensures in
      subst (λ (v : Vec (Option Answer) Global). AreGiven gives 0 c.args.lines.now v.items) (sym w.told-is)
      (given-set gives 0 c.args.lines.now c.loop-place.told.items c.loop-place.place w.index-lines-place.result w.told_by_one.result c.loop-place.place c.loop-place.invariant t (sym w.index-lines-place.is) (omega arith) told))
  | else-is_none w ↦ (
      let gives = λ (place : ℕ) (line : Vec ℕ Global) (a : Option Answer). IsTold (g.C.Answers.IsAnswer c.args.command.now) (g.C.Answers.IsNote c.args.command.now) (c.args.number + place) line.items a in
      subst (λ (v : Vec (Option Answer) Global). AreGiven gives 0 c.args.lines.now v.items) (sym w.told-is) c.loop-place.invariant)
]

pub returns : goal.returns
returns g c = c.loop-place.invariant
