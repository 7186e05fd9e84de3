use Rattle.std.proofs.Common.{◌≡◌, ◌<◌, ◌≤◌, ◌+◌, ◌∙◌, length, vec_len, take, sym, ap, subst, arith, rules, List, Bool}
use Rattle.std.specs.Prelude.{reverse}
use Rattle.std.proofs.lemmas.List.{length-set}
use Rattle.scope_model.specs.States.{state, IsPlaced, IsFilled}
use Rattle.scope_resolve.specs.Inner.Masks.{AreMarks}
use Rattle.scope_resolve.proofs.Seeing.{root_first, none_first, placed_on, filled_on, marks_end}
use Rattle.scope_resolve.proofs.ways.mark_plugs.Goals as goal

pub loop-k-init : goal.loop-k-init
loop-k-init c =
    let t = c.args.trail.now in
    record {
      placed = subst (λ (ms : List Bool). AreMarks (IsPlaced (state t.root (reverse (take 0 t.plugs.items)))) ms) (sym c.mark.ensures) (root_first t.root t.plugs.items c.args.placed.now.items c.requires.no_label);
      filled = none_first t.root t.plugs.items c.args.filled.now.items c.requires.no_hole;
      size = ap length c.mark.ensures ∙ length-set c.args.placed.now.items t.root _;
    }

pub loop-k-preserved : goal.loop-k-preserved
loop-k-preserved c =
    let t = c.args.trail.now in
    let e : vec_len t.plugs ≡ length t.plugs.items = search rules in
    let l : c.loop-k.k < length t.plugs.items = omega (arith, e, c.len-k-end.ensures, c.loop-k-test.true) in
    let x = c.index-plug.result.now in
    record {
      placed = subst (λ (ms : List Bool). AreMarks (IsPlaced (state t.root (reverse (take (c.loop-k.k + 1) t.plugs.items)))) ms) (sym c.mark-in-loop-k.ensures) (placed_on t.root t.plugs.items c.loop-k.placed.items c.loop-k.k x l c.index-plug.ensures c.loop-k.invariant.placed);
      filled = subst (λ (ms : List Bool). AreMarks (IsFilled (state t.root (reverse (take (c.loop-k.k + 1) t.plugs.items)))) ms) (sym c.mark-in-loop-k-2.ensures) (filled_on t.root t.plugs.items c.loop-k.filled.items c.loop-k.k x l c.index-plug.ensures c.loop-k.invariant.filled);
      size = ap length c.mark-in-loop-k.ensures ∙ (length-set c.loop-k.placed.items x.label _ ∙ c.loop-k.invariant.size);
    }

pub returns-clause-placed : goal.returns-clause-placed
returns-clause-placed c =
    let t = c.args.trail.now in
    let e : vec_len t.plugs ≡ length t.plugs.items = search rules in
    let l : length t.plugs.items ≤ c.loop-k.k = omega (arith, e, c.len-k-end.ensures, c.loop-k-test.false) in
    marks_end t.root t.plugs.items IsPlaced c.loop-k.placed.items c.loop-k.k l c.loop-k.invariant.placed

pub returns-clause-filled : goal.returns-clause-filled
returns-clause-filled c =
    let t = c.args.trail.now in
    let e : vec_len t.plugs ≡ length t.plugs.items = search rules in
    let l : length t.plugs.items ≤ c.loop-k.k = omega (arith, e, c.len-k-end.ensures, c.loop-k-test.false) in
    marks_end t.root t.plugs.items IsFilled c.loop-k.filled.items c.loop-k.k l c.loop-k.invariant.filled
