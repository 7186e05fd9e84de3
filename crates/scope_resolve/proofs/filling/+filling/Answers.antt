use Rattle.std.proofs.Common.{◌≡◌, ◌<◌, ◌≤◌, ◌+◌, ◌-◌, ◌++◌, ◌∙◌, length, vec_len, get_or, take, drop, map, subst, ap, refl, sym, arith, rules, true, false}
use Rattle.std.proofs.Math.Seq.{take-append_seam}
use Rattle.scope_model.specs.Answers.{plugged_of}
use Rattle.scope_model.specs.States.{IsPlaced}
use Rattle.scope_resolve.specs.declared.ways.Ways.{Ways}
use Rattle.scope_resolve.specs.Inner.Nets.{frame_in}
use Rattle.scope_resolve.specs.Inner.Filling.{AreFound, HasOneOf, state_of}
use Rattle.scope_resolve.specs.Inner.Pruning.{IsPlan, IsSeen, AreSeats, AreCandidates}
use Rattle.scope_resolve.proofs.Each.{there_at}
use Rattle.scope_resolve.proofs.Steps.{one_on, one_over, one_end, going_on, found_at, work_falls, at_kept, state_kept, going_kept, open_kept, work_kept}
use Rattle.scope_resolve.proofs.Candidates.{turn_at, turn_end, turn_first, dead_none}
use Rattle.scope_resolve.proofs.Owning.{read_zero}
use Rattle.scope_resolve.proofs.filling.+filling.Goals as goal

-- fill
pub fill-end-requires-clause-closed : goal.fill-end-requires-clause-closed
fill-end-requires-clause-closed t c = λ o w.
    let os = c.see.new.self.ways.opens in
    let e : vec_len os ≡ length os.items = search rules in
    let m = (c.in_ok-see.ensures.seen.opens o).1 w in
    let l = m.1 in
    absurd (omega (arith, l, e, c.len.ensures, c.if-len-eq0.true))

pub fill-returns-then-not-goes_on-clause-found : goal.fill-returns-then-not-goes_on-clause-found
fill-returns-then-not-goes_on-clause-found t c = dead_none (frame_in c.args.net.now.parts) (state_of c.args.trail.now) c.args.max _ (c.in_ok-goes_on.ensures.dead c.if-not-goes_on.true)

pub fill-fill_open-requires : goal.fill-fill_open-requires
fill-fill_open-requires t c =
    let f = frame_in c.args.net.now.parts in
    let s = state_of c.args.trail.now in
    let os = c.see.new.self.ways.opens in
    let e : vec_len os ≡ length os.items = search rules in
    let some : 0 < length os.items = omega (arith, e, c.len.ensures, c.if-len-eq0.false) in (
      omega arith,
      (
        c.requires.net,
        (
          c.requires.going,
          (
            subst (IsPlan f) (sym (c.in_ok-goes_on.ensures.plan ∙ c.in_ok-see.ensures.plan)) c.requires.plan,
            (
              subst (IsSeen f s) (sym c.in_ok-goes_on.ensures.ways) c.in_ok-see.ensures.seen,
              (
                subst (λ (w : Ways). AreSeats f s w.opens.items c.mask.new.self.masks.sets.items) (sym c.in_ok-goes_on.ensures.ways) (c.in_ok-goes_on.ensures.seats c.if-not-goes_on.false),
                subst (λ (w : Ways). 0 < length w.opens.items) (sym c.in_ok-goes_on.ensures.ways) some,
              ),
            ),
          ),
        ),
      ),
    )

-- fill_open: the candidates of one open hole
pub fill_open-fill_each-requires : goal.fill_open-fill_each-requires
fill_open-fill_each-requires t c =
    let f = frame_in c.args.net.now.parts in
    let s = state_of c.args.trail.now in
    let old = c.args.search.now.stack in
    let e : vec_len old ≡ length old.items = search rules in
    let put = c.in_ok-hole.ensures.are s c.requires.seen c.requires.seats in (
      omega arith,
      (
        c.requires.net,
        (
          c.requires.going,
          (
            subst (IsPlan f) (sym c.in_ok-hole.ensures.plan) c.requires.plan,
            (
              put.open_hole,
              subst (λ m. AreCandidates f s c.in_ok-hole.hole (drop m c.put_candidates.new.self.stack.items)) (sym (c.len-from.ensures ∙ e)) put.are,
            ),
          ),
        ),
      ),
    )

pub fill_open-returns-clause-stack : goal.fill_open-returns-clause-stack
fill_open-returns-clause-stack t c = λ y.
    let old = c.args.search.now.stack in
    let e : vec_len old ≡ length old.items = search rules in
    let put = c.in_ok-hole.ensures.are (state_of c.args.trail.now) c.requires.seen c.requires.seats in
    c.truncate.ensures.items ∙ (ap (take c.len-from.result) (c.in_ok-done.ensures.stack y ∙ put.is) ∙ (ap (λ m. take m (old.items ++ drop (length old.items) c.put_candidates.new.self.stack.items)) (c.len-from.ensures ∙ e) ∙ take-append_seam old.items _))

-- fill_each: each candidate in turn
pub fill_each-loop-k-init : goal.fill_each-loop-k-init
fill_each-loop-k-init t c = record {
  from = omega arith;
  kept = record { root = refl; plugs = refl };
  plan = refl;
  stack = refl;
  found = turn_first (frame_in c.args.net.now.parts) (state_of c.args.trail.now) c.args.turn.hole c.args.max c.args.turn.from c.args.search.now.stack.items _;
}

pub fill_each-fill_with-requires : goal.fill_each-fill_with-requires
fill_each-fill_with-requires t c =
    let n = c.args.net.now in
    let f = frame_in n.parts in
    let i = c.loop-k.invariant in
    let x = c.index-label.result.now in
    let xs = c.args.search.now.stack in
    let e : vec_len xs ≡ length xs.items = search rules in
    let lt : c.loop-k.k < length xs.items = omega (arith, e, c.len-k-end.ensures, c.loop-k-test.true) in
    let at = turn_at xs.items c.args.turn.from c.loop-k.k x i.from lt (c.index-label.ensures ∙ ap (λ ys. get_or ys c.loop-k.k x) i.stack) in
    let there = there_at (drop c.args.turn.from xs.items) (c.loop-k.k - c.args.turn.from) x at.0 at.1 in
    let w = work_kept n.labels.items c.loop-k.trail c.args.trail.now i.kept in (
      omega (arith, w),
      (
        c.requires.net,
        (
          going_kept f c.loop-k.trail c.args.trail.now i.kept c.requires.going,
          (
            subst (IsPlan f) (sym i.plan) c.requires.plan,
            (
              open_kept f c.loop-k.trail c.args.trail.now c.args.turn.hole i.kept c.requires.open_hole,
              (
                c.requires.candidates.labels x there,
                ((λ p. c.requires.candidates.new x there (subst (λ s. IsPlaced s x) (state_kept c.loop-k.trail c.args.trail.now i.kept) p)), c.requires.candidates.own x there),
              ),
            ),
          ),
        ),
      ),
    )

pub fill_each-returns-then-not-branch-clause-found : goal.fill_each-returns-then-not-branch-clause-found
fill_each-returns-then-not-branch-clause-found t c =
    let n = c.args.net.now in
    let i = c.loop-k.invariant in
    let x = c.index-label.result.now in
    let xs = c.args.search.now.stack in
    let e : vec_len xs ≡ length xs.items = search rules in
    let lt : c.loop-k.k < length xs.items = omega (arith, e, c.len-k-end.ensures, c.loop-k-test.true) in
    let at = turn_at xs.items c.args.turn.from c.loop-k.k x i.from lt (c.index-label.ensures ∙ ap (λ ys. get_or ys c.loop-k.k x) i.stack) in
    let cs = drop c.args.turn.from xs.items in
    one_over n c.args.trail.now c.requires.net c.requires.going c.args.max c.args.turn.hole cs c.requires.candidates.once (c.loop-k.k - c.args.turn.from) x _ _ _ at.0 (read_zero cs (c.loop-k.k - c.args.turn.from) x at.0 at.1) i.found
    (at_kept (frame_in n.parts) c.loop-k.trail c.args.trail.now c.args.turn.hole x c.args.max false _ _ i.kept (rw c.if-not-branch.true at c.in_ok-fill_with.ensures.found))

pub fill_each-loop-k-preserved : goal.fill_each-loop-k-preserved
fill_each-loop-k-preserved t c =
    let n = c.args.net.now in
    let f = frame_in n.parts in
    let i = c.loop-k.invariant in
    let x = c.index-label.result.now in
    let xs = c.args.search.now.stack in
    let e : vec_len xs ≡ length xs.items = search rules in
    let lt : c.loop-k.k < length xs.items = omega (arith, e, c.len-k-end.ensures, c.loop-k-test.true) in
    let at = turn_at xs.items c.args.turn.from c.loop-k.k x i.from lt (c.index-label.ensures ∙ ap (λ ys. get_or ys c.loop-k.k x) i.stack) in
    let cs = drop c.args.turn.from xs.items in
    let g = i.from in
    let next : (c.loop-k.k - c.args.turn.from) + 1 ≡ c.loop-k.k + 1 - c.args.turn.from = omega (arith, g) in
    record {
      from = omega (arith, g);
      kept = record { root = c.in_ok-fill_with.ensures.kept.root ∙ i.kept.root; plugs = c.in_ok-fill_with.ensures.kept.plugs ∙ i.kept.plugs };
      plan = c.in_ok-fill_with.ensures.plan ∙ i.plan;
      stack = c.in_ok-fill_with.ensures.stack c.if-not-branch.false ∙ i.stack;
      found = subst (λ j. AreFound f (HasOneOf (state_of c.args.trail.now) c.args.turn.hole (take j cs)) c.args.max true (map plugged_of c.args.out.now.items) (map plugged_of c.fill_with.new.out.items)) next
          (one_on n c.args.trail.now c.requires.net c.requires.going c.args.max c.args.turn.hole cs c.requires.candidates.once (c.loop-k.k - c.args.turn.from) x _ _ _ at.0 (read_zero cs (c.loop-k.k - c.args.turn.from) x at.0 at.1) i.found
          (at_kept f c.loop-k.trail c.args.trail.now c.args.turn.hole x c.args.max true _ _ i.kept (rw c.if-not-branch.false at c.in_ok-fill_with.ensures.found)));
    }

pub fill_each-returns-clause-found : goal.fill_each-returns-clause-found
fill_each-returns-clause-found t c =
    let n = c.args.net.now in
    let xs = c.args.search.now.stack in
    let e : vec_len xs ≡ length xs.items = search rules in
    let le : length xs.items ≤ c.loop-k.k = omega (arith, e, c.len-k-end.ensures, c.loop-k-test.false) in
    one_end n c.args.trail.now c.requires.net c.requires.going c.args.max c.args.turn.hole (drop c.args.turn.from xs.items) c.requires.candidates.once (c.loop-k.k - c.args.turn.from) _ _ (turn_end xs.items c.args.turn.from c.loop-k.k le)
    c.requires.candidates.all c.loop-k.invariant.found

-- fill_with: one label
pub fill_with-fill-requires : goal.fill_with-fill-requires
fill_with-fill-requires t c =
    let n = c.args.net.now in
    let trail = c.args.trail.now in
    let p = c.args.plug in
    let w = work_falls n trail c.requires.net c.requires.going c.args.max p.hole p.label c.requires.open_hole c.push.new.self c.push.ensures.root c.in_ok-push.ensures.ok ((c.requires.net.labels p.label).1 c.requires.label) c.requires.new in (
      omega (arith, w),
      (
        c.requires.net,
        (going_on n trail c.requires.net c.requires.going c.args.max p.hole p.label c.requires.open_hole c.push.new.self c.push.ensures.root c.in_ok-push.ensures.ok c.requires.label c.requires.new c.requires.own, c.requires.plan),
      ),
    )

pub fill_with-returns-clause-found : goal.fill_with-returns-clause-found
fill_with-returns-clause-found t c =
    found_at c.args.net.now c.args.trail.now c.requires.net c.requires.going c.args.max c.args.plug.hole c.args.plug.label c.requires.open_hole c.push.new.self c.push.ensures.root c.in_ok-push.ensures.ok _ _ _ c.in_ok-done.ensures.found
