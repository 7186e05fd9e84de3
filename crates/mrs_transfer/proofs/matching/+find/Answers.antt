use Rattle.std.proofs.Common.{◌≡◌, ◌<◌, ◌+◌, ◌-◌, ℕ, List, [], ◌∷◌, ◌++◌, ◌∙◌, length, length-append, ap, sym, subst, refl, arith, rules}
use Rattle.std.specs.Prelude.{IfSome, IfNone}
use Rattle.std.proofs.lemmas.Bool.{OnTrue_at, OnFalse_at}
use Rattle.mrs_transfer.specs.declared.bound.Pair.{Pair}
use Rattle.mrs_transfer.specs.Inner.Matching.{task_of, IsPlaced, Solves, Begins, IsLeast, IsNowhere}
use Rattle.mrs_transfer.proofs.Searching.{passed_none, passed_more, nowhere_refused}
use Rattle.mrs_transfer.proofs.Finding.{short_of, turn_least, turn_nowhere, pop_back, cut_back, none_so}
use Rattle.mrs_transfer.proofs.matching.+find.Goals as goal

pub taken-requires-clause-placed : goal.taken-requires-clause-placed
taken-requires-clause-placed g t c =
    subst (λ (z : List ℕ). IsPlaced (task_of c.args.sides) z c.deref-then-len-sides.result.now) (sym c.deref.ensures.value)
    (subst (λ (z : List Pair). IsPlaced (task_of c.args.sides) c.args.places.now.items z) (sym c.deref-then-len-sides.ensures.value) c.requires.placed)

pub taken-requires-clause-full : goal.taken-requires-clause-full
taken-requires-clause-full g t c = let e = ap length c.deref.ensures.value in omega (arith, e)

pub returns-then-len-sides-clause-some : goal.returns-then-len-sides-clause-some
returns-then-len-sides-clause-some g t c =
    subst (λ (z : List ℕ). IfSome c.in_ok-found.found (λ v. IsLeast (task_of c.args.sides) (g.C.Choice.Answered c.args.choice.now) (g.C.Choice.Takes c.args.choice.now) z z v.items)) c.deref.ensures.value c.in_ok-found.ensures.some

pub returns-then-len-sides-clause-none : goal.returns-then-len-sides-clause-none
returns-then-len-sides-clause-none g t c =
    subst (λ (z : List ℕ). IfNone c.in_ok-found.found (IsNowhere (task_of c.args.sides) (g.C.Choice.Answered c.args.choice.now) (g.C.Choice.Takes c.args.choice.now) z)) c.deref.ensures.value c.in_ok-found.ensures.none

pub returns-then-len-sides-clause-same : goal.returns-then-len-sides-clause-same
returns-then-len-sides-clause-same g t c = none_so c.in_ok-found.found _ (refl, refl)

pub loop-at-init : goal.loop-at-init
loop-at-init g t c = record { places = refl; pairs = refl; passed = passed_none (task_of c.args.sides) (g.C.Choice.Answered c.args.choice.now) (g.C.Choice.Takes c.args.choice.now) c.args.places.now.items }

pub put-requires-clause-placed : goal.put-requires-clause-placed
put-requires-clause-placed g t c =
    subst (λ (z : List ℕ). IsPlaced (task_of c.args.sides) z c.loop-at.pairs.items) (sym c.loop-at.invariant.places)
    (subst (λ (z : List Pair). IsPlaced (task_of c.args.sides) c.args.places.now.items z) (sym c.loop-at.invariant.pairs) c.requires.placed)

pub put-requires-clause-turn : goal.put-requires-clause-turn
put-requires-clause-turn g t c =
    let e = ap length c.loop-at.invariant.places in
    let s = short_of c.args.sides c.args.places.now.items c.args.pairs.now.items c.requires.placed in
    omega (arith, e, s)

pub loop-at-preserved-then-not-branch : goal.loop-at-preserved-then-not-branch
loop-at-preserved-then-not-branch g t c =
    let same = OnFalse_at c.if-not-branch.true c.in_ok-put.ensures.same in
    record {
      places = same.0 ∙ c.loop-at.invariant.places;
      pairs = same.1 ∙ c.loop-at.invariant.pairs;
      passed = passed_more (task_of c.args.sides) (g.C.Choice.Answered c.args.choice.now) (g.C.Choice.Takes c.args.choice.now) c.args.places.now.items c.loop-at.at c.loop-at.invariant.passed
          (nowhere_refused (task_of c.args.sides) (g.C.Choice.Answered c.args.choice.now) (g.C.Choice.Takes c.args.choice.now) (c.args.places.now.items ++ c.loop-at.at ∷ [])
          (subst (λ (z : List ℕ). (qs vs : List ℕ) → Solves (task_of c.args.sides) qs vs → Begins (z ++ c.loop-at.at ∷ []) qs → ⊥) c.loop-at.invariant.places (OnFalse_at c.if-not-branch.true c.in_ok-put.ensures.no)));
    }

pub find-requires : goal.find-requires
find-requires g t c =
    let placed : IsPlaced (task_of c.args.sides) c.put.new.places.items c.put.new.pairs.items = OnTrue_at c.if-not-branch.false c.in_ok-put.ensures.yes in
    let more = OnTrue_at c.if-not-branch.false c.in_ok-put.ensures.more in
    let s = short_of c.args.sides c.args.places.now.items c.args.pairs.now.items c.requires.placed in
    let n : length c.put.new.places.items ≡ length c.args.places.now.items + 1 = ap length (more.0 ∙ ap (λ (z : List ℕ). z ++ c.loop-at.at ∷ []) c.loop-at.invariant.places) ∙ length-append c.args.places.now.items (c.loop-at.at ∷ []) in
    let smaller : length c.args.sides.elements.now - length c.put.new.places.items < length c.args.sides.elements.now - length c.args.places.now.items = omega (arith, n, s) in
    search rules

pub returns-in-Some-clause-some : goal.returns-in-Some-clause-some
returns-in-Some-clause-some g t c =
    let more = OnTrue_at c.if-not-branch.false c.in_ok-put.ensures.more in
    let s = short_of c.args.sides c.args.places.now.items c.args.pairs.now.items c.requires.placed in
    turn_least c.args.sides (g.C.Choice.Answered c.args.choice.now) (g.C.Choice.Takes c.args.choice.now) c.args.places.now.items c.loop-at.at c.find.new.places.items c.in-Some.vars.items (omega (arith, s)) c.loop-at.invariant.passed
    (subst (λ (z : List ℕ). IsLeast (task_of c.args.sides) (g.C.Choice.Answered c.args.choice.now) (g.C.Choice.Takes c.args.choice.now) z c.find.new.places.items c.in-Some.vars.items)
    (more.0 ∙ ap (λ (z : List ℕ). z ++ c.loop-at.at ∷ []) c.loop-at.invariant.places) (rw c.in-Some.is at c.in_ok-vars.ensures.some))

pub loop-at-preserved : goal.loop-at-preserved
loop-at-preserved g t c =
    let more = OnTrue_at c.if-not-branch.false c.in_ok-put.ensures.more in
    let there : c.put.new.places.items ≡ c.args.places.now.items ++ c.loop-at.at ∷ [] = more.0 ∙ ap (λ (z : List ℕ). z ++ c.loop-at.at ∷ []) c.loop-at.invariant.places in
    let same = rw c.in_default.is at c.in_ok-vars.ensures.same in
    record {
      places = pop_back c.pop.new.self.items c.find.new.places.items c.put.new.places.items c.args.places.now.items _ c.loop-at.at c.pop.ensures.rest c.find.new.places.ok.0 same.0 there;
      pairs = cut_back c.truncate.new.self.items c.find.new.pairs.items c.put.new.pairs.items c.loop-at.pairs.items c.args.pairs.now.items c.len-mark.result c.truncate.ensures.items (omega arith) same.1 more.1 c.loop-at.invariant.pairs;
      passed = passed_more (task_of c.args.sides) (g.C.Choice.Answered c.args.choice.now) (g.C.Choice.Takes c.args.choice.now) c.args.places.now.items c.loop-at.at c.loop-at.invariant.passed
          (subst (λ (z : List ℕ). IsNowhere (task_of c.args.sides) (g.C.Choice.Answered c.args.choice.now) (g.C.Choice.Takes c.args.choice.now) z) there (rw c.in_default.is at c.in_ok-vars.ensures.none));
    }

pub returns-clause-none : goal.returns-clause-none
returns-clause-none g t c =
    let s = short_of c.args.sides c.args.places.now.items c.args.pairs.now.items c.requires.placed in
    let end = c.loop-at-test.false in
    turn_nowhere c.args.sides (g.C.Choice.Answered c.args.choice.now) (g.C.Choice.Takes c.args.choice.now) c.args.places.now.items c.loop-at.at (omega (arith, s)) (omega (arith, end)) c.loop-at.invariant.passed

pub returns-clause-same : goal.returns-clause-same
returns-clause-same g t c = (c.loop-at.invariant.places, c.loop-at.invariant.pairs)
