use Rattle.std.proofs.Common.{◌≡◌, ℕ, List, [], ◌∷◌, ◌++◌, ◌∙◌, length, take, ap, sym, subst, refl, arith}
use Rattle.std.proofs.lemmas.Bool.{OnTrue_at, OnFalse_at}
use Rattle.mrs_transfer.specs.Inner.Matching.{task_of, IsPlaced}
use Rattle.mrs_transfer.proofs.Searching.{begins_twice}
use Rattle.mrs_transfer.proofs.Finding.{element_held, ep_held, put_placed, put_refused, among, among_not}
use Rattle.mrs_transfer.proofs.matching.put.Goals as goal

pub returns-then-contains-clause-no : goal.returns-then-contains-clause-no
returns-then-contains-clause-no c = λ qs vs s b.
    begins_twice c.args.places.now.items qs c.args.at s.apart b ((among c.args.places.now.items c.deref.result.now c.args.at c.in_ok-place.place c.contains.result c.contains.ensures.cases c.deref.ensures.value c.in_ok-place.ensures).0 c.if-contains.true)

pub fit-requires-clause-element : goal.fit-requires-clause-element
fit-requires-clause-element c = element_held c.args.sides c.len.result c.index-sides-len.result c.requires.task (omega arith)

pub fit-requires-clause-ep : goal.fit-requires-clause-ep
fit-requires-clause-ep c = ep_held c.args.sides c.args.at c.index-sides-at.result c.requires.task c.requires.at

pub fit-requires-clause-pairs : goal.fit-requires-clause-pairs
fit-requires-clause-pairs c = c.requires.placed.are

pub returns-then-not-branch-clause-no : goal.returns-then-not-branch-clause-no
returns-then-not-branch-clause-no c = λ qs vs s b.
    put_refused c.args.sides c.args.places.now.items c.args.pairs.now.items c.fit.new.pairs.items c.args.at c.len.result c.index-sides-len.result c.index-sides-at.result qs vs c.requires.placed c.requires.turn (omega arith) c.requires.at (OnFalse_at c.if-not-branch.true c.in_ok-fit.ensures.no) s b

pub returns-then-not-branch-clause-same : goal.returns-then-not-branch-clause-same
returns-then-not-branch-clause-same c =
    let n : c.len-mark.result ≡ length c.args.pairs.now.items = omega arith in
    (refl, c.truncate.ensures.items ∙ (ap (λ (k : ℕ). take k c.fit.new.pairs.items) n ∙ (OnFalse_at c.if-not-branch.true c.in_ok-fit.ensures.no).front))

pub returns-clause-yes : goal.returns-clause-yes
returns-clause-yes c =
    subst (λ (z : List ℕ). IsPlaced (task_of c.args.sides) z c.fit.new.pairs.items) (sym (c.in_ok-push.ensures.items ∙ ap (λ (z : ℕ). c.args.places.now.items ++ z ∷ []) c.in_ok-place.ensures))
    (put_placed c.args.sides c.args.places.now.items c.args.pairs.now.items c.fit.new.pairs.items c.args.at c.len.result c.index-sides-len.result c.index-sides-at.result c.requires.placed
    (among_not c.args.places.now.items c.deref.result.now c.args.at c.in_ok-place.place c.contains.result c.contains.ensures.cases c.deref.ensures.value c.in_ok-place.ensures c.if-contains.false) c.requires.turn (omega arith) c.requires.at (OnTrue_at c.if-not-branch.false c.in_ok-fit.ensures.yes))

pub returns-clause-more : goal.returns-clause-more
returns-clause-more c = (
  c.in_ok-push.ensures.items ∙ ap (λ (z : ℕ). c.args.places.now.items ++ z ∷ []) c.in_ok-place.ensures,
  (OnTrue_at c.if-not-branch.false c.in_ok-fit.ensures.yes).front,
)
