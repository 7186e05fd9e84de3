use Rattle.std.proofs.Common.{ℕ, ◌≡◌, ◌∙◌, ◌+◌, ◌-◌, ◌<◌, length, sym, ap, arith, true, false, Bool}
use Rattle.std.specs.Prelude.{not, ◌||◌}
use Rattle.mrs_places.specs.Paths.{paths_of}
use Rattle.relation_fit.specs.Tests.{cell_fits, misfits}
use Rattle.relation_fit.proofs.Turning.{turn_ends, turn_stops, turn_on}
use Rattle.relation_fit.proofs.fitting.misfits.Goals as goal
use Rattle.relation_fit.proofs.fitting.misfits.Goals.{then-seen, else-seen}

pub loop-turn-preserved : goal.loop-turn-preserved
loop-turn-preserved c =
    let types = c.args.types.now in
    let g = c.args.graph.now in
    let p = paths_of c.args.paths.now in
    let eps = c.args.eps.now in
    let size = length g.types in
    let t = c.loop-turn._turn in
    let node = c.loop-turn.node.0 in
    let seen = c.loop-turn.seen in
    let bad = not (cell_fits types g p eps node) in
    let less : t < size = omega (arith, c.loop-turn-test.true, c.nodes-turn-end.ensures.count) in
    let same : (seen || bad) ≡ c.if-seen.seen = sym (elim c.if-seen.branch [
      | then-seen w ↦
          (let yes : c.if-seen.seen ≡ true = (let s = w.seen-is in let b = w.if-seen.true in cc) in
          yes ∙ sym (ap (λ (a : Bool). a || bad) w.if-seen.true))
      | else-seen w ↦ w.seen-is ∙ ap not w.cell_fits.ensures ∙ sym (ap (λ (a : Bool). a || bad) w.if-seen.false)
    ]) in (
      c.loop-turn.invariant.0
          ∙ turn_on types g p eps c.args.rest.0 c.args.end.0 (size - t) (size - (t + 1)) node c.in-Some.to.0 seen (omega (arith, less)) c.if-node-end.false (sym c.in-Some.ensures.at)
          ∙ ap (λ b. misfits types g p eps c.args.rest.0 c.args.end.0 (size - (t + 1)) c.in-Some.to.0 b) same,
      c.in-Some.ensures.inside,
    )

pub returns-then-node-end : goal.returns-then-node-end
returns-then-node-end c =
    let size = length c.args.graph.now.types in
    let less : c.loop-turn._turn < size = omega (arith, c.loop-turn-test.true, c.nodes-turn-end.ensures.count) in
    sym (c.loop-turn.invariant.0
    ∙ turn_ends c.args.types.now c.args.graph.now (paths_of c.args.paths.now) c.args.eps.now c.args.rest.0 c.args.end.0 (size - c.loop-turn._turn) c.loop-turn.node.0 c.loop-turn.seen (omega (arith, less)) c.if-node-end.true)

pub returns-in_default : goal.returns-in_default
returns-in_default c =
    let size = length c.args.graph.now.types in
    let less : c.loop-turn._turn < size = omega (arith, c.loop-turn-test.true, c.nodes-turn-end.ensures.count) in
    sym (c.loop-turn.invariant.0
    ∙ turn_stops c.args.types.now c.args.graph.now (paths_of c.args.paths.now) c.args.eps.now c.args.rest.0 c.args.end.0 (size - c.loop-turn._turn) c.loop-turn.node.0 c.loop-turn.seen (omega (arith, less)) c.if-node-end.false (sym c.in_default.ensures.at))

pub returns : goal.returns
returns c =
    let size = length c.args.graph.now.types in
    let none : size - c.loop-turn._turn ≡ 0 = omega (arith, c.loop-turn-test.false, c.nodes-turn-end.ensures.count) in
    sym (c.loop-turn.invariant.0 ∙ ap (λ n. misfits c.args.types.now c.args.graph.now (paths_of c.args.paths.now) c.args.eps.now c.args.rest.0 c.args.end.0 n c.loop-turn.node.0 c.loop-turn.seen) none)
