use Rattle.std.proofs.Common.{ℕ, List, sym, subst, arith}
use Rattle.std.proofs.lemmas.Bool.{OnTrue_at, OnFalse_at}
use Rattle.mrs_transfer.proofs.Finding.{full_bound, full_match, full_least, full_nowhere}
use Rattle.mrs_transfer.proofs.matching.taken.Goals as goal

pub vars_of-requires : goal.vars_of-requires
vars_of-requires g c = λ x l. full_bound c.args.sides c.args.places.now c.args.pairs.now c.requires.task c.requires.placed c.requires.full x (omega (arith, l))

pub takes-requires : goal.takes-requires
takes-requires g c =
    subst (λ (z : List ℕ). g.C.Choice.Asks c.args.choice.now c.args.places.now z) (sym c.deref.ensures.value)
    (c.requires.asks c.args.places.now c.in_ok-vars.vars.items (full_match c.args.sides c.args.places.now c.args.pairs.now c.in_ok-vars.vars.items c.requires.placed c.requires.full (let n = c.in_ok-vars.ensures.size in omega (arith, n)) (λ x l. c.in_ok-vars.ensures.each x (omega (arith, l)))))

pub returns-then-branch-clause-some : goal.returns-then-branch-clause-some
returns-then-branch-clause-some g c =
    full_least c.args.sides (g.C.Choice.Answered c.args.choice.now) (g.C.Choice.Takes c.args.choice.now) c.args.places.now c.args.pairs.now c.in_ok-vars.vars.items c.requires.placed c.requires.full (let n = c.in_ok-vars.ensures.size in omega (arith, n)) (λ x l. c.in_ok-vars.ensures.each x (omega (arith, l)))
    (λ allows a. subst (λ (z : List ℕ). g.C.Choice.Takes c.args.choice.now allows c.args.places.now z) c.deref.ensures.value (OnTrue_at c.if-branch.true (c.in_ok-takes.ensures.yes allows a)))

pub returns-else-branch-clause-none : goal.returns-else-branch-clause-none
returns-else-branch-clause-none g c =
    full_nowhere c.args.sides (g.C.Choice.Answered c.args.choice.now) (g.C.Choice.Takes c.args.choice.now) c.args.places.now c.args.pairs.now c.in_ok-vars.vars.items c.requires.placed c.requires.full (let n = c.in_ok-vars.ensures.size in omega (arith, n)) (λ x l. c.in_ok-vars.ensures.each x (omega (arith, l)))
    (λ allows a t. OnFalse_at c.if-branch.false (c.in_ok-takes.ensures.no allows a) (subst (λ (z : List ℕ). g.C.Choice.Takes c.args.choice.now allows c.args.places.now z) (sym c.deref.ensures.value) t))
