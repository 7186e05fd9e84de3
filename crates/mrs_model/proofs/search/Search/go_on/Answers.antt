use Rattle.std.proofs.Common.{◌≡◌, ◌∙◌, ◌<◌, ◌^◌, sym, ap, arith, rules, length, vec_len}
use Rattle.std.proofs.lemmas.Bool.{OnTrue_at, OnFalse_at}
use Rattle.mrs_model.specs.Inner.Bindings.{Bound}
use Rattle.mrs_model.specs.Inner.State.{task_of}
use Rattle.mrs_model.proofs.Searching.{last_step, knows_back, knows_none}
use Rattle.mrs_model.proofs.Going.{elements_length, places_length, work_push, knows_popped, knows_empty, empty_of, turn_left}
use Rattle.mrs_model.proofs.search.Search.go_on.Goals as goal

pub returns-then-branch-clause-less : goal.returns-then-branch-clause-less
returns-then-branch-clause-less c =
    let s = OnTrue_at c.if-branch.true c.in_ok-advance.ensures.step in
    let l = elements_length c.args.sides.left.now in
    let r = elements_length c.args.sides.right.now in
    work_push _ _ c.args.next _ _ s.0 s.1 (rw l c.requires.turn) s.2 (rw r s.3)

pub forget-requires : goal.forget-requires
forget-requires c =
    let w = OnFalse_at c.if-branch.false c.in_ok-advance.ensures.no in
    (last_step (task_of c.args.sides) c.in-Some.step _ _ (knows_popped _ _ _ _ _ _ _ _ c.in-Some.ensures.items w.1).leads).1

pub index_mut-requires : goal.index_mut-requires
index_mut-requires c =
    let w = OnFalse_at c.if-branch.false c.in_ok-advance.ensures.no in
    let p = (last_step (task_of c.args.sides) c.in-Some.step _ _ (knows_popped _ _ _ _ _ _ _ _ c.in-Some.ensures.items w.1).leads).2 in
    let e : vec_len c.advance.new.self.used ≡ length c.advance.new.self.used.items = search rules in
    omega (arith, p, e, w.1.even)

pub overflow_add-result : goal.overflow_add-result
overflow_add-result c =
    let w = OnFalse_at c.if-branch.false c.in_ok-advance.ensures.no in
    let p = (last_step (task_of c.args.sides) c.in-Some.step _ _ (knows_popped _ _ _ _ _ _ _ _ c.in-Some.ensures.items w.1).leads).2 in
    let e : vec_len c.advance.new.self.used ≡ length c.advance.new.self.used.items = search rules in
    let f : vec_len c.advance.new.self.used < 2 ^ 64 = search rules in
    omega (arith, p, e, f, w.1.even)

pub returns-in-None-clause-none : goal.returns-in-None-clause-none
returns-in-None-clause-none c =
    let w = OnFalse_at c.if-branch.false c.in_ok-advance.ensures.no in
    let l = elements_length c.args.sides.left.now in
    let r = elements_length c.args.sides.right.now in
    let e : vec_len c.advance.new.self.steps ≡ length c.advance.new.self.steps.items = search rules in
    knows_none (task_of c.args.sides) _ _ _ w.0 (knows_empty _ _ _ _ _ _ (empty_of _ (sym e ∙ c.in-None.ensures.cases.0)) w.1) (rw r w.2) (let t = c.requires.turn in omega (arith, t, l))

pub returns-in-Some-clause-on : goal.returns-in-Some-clause-on
returns-in-Some-clause-on c =
    let w = OnFalse_at c.if-branch.false c.in_ok-advance.ensures.no in
    let l = elements_length c.args.sides.left.now in
    let r = elements_length c.args.sides.right.now in
    let k = knows_popped _ _ _ c.in-Some.step _ _ _ _ c.in-Some.ensures.items w.1 in
    let n = places_length c.pop.new.self.items in
    rw (ap (λ (b : Bound). b.pairs) c.forget.ensures, ap (λ (b : Bound). b.size) c.forget.ensures)
    (knows_back (task_of c.args.sides) c.in-Some.step _ _ _ _ w.0 k (rw r w.2) (turn_left c.args.sides.left.now _ _ c.in-Some.step c.in-Some.ensures.items (rw (OnFalse_at c.if-branch.false c.in_ok-advance.ensures.same) c.requires.turn)))
