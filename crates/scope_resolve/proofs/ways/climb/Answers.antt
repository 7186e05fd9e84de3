use Rattle.std.proofs.Common.{◌≡◌, List, length, vec_len, sym, subst, arith, rules}
use Rattle.std.specs.Prelude.{reverse}
use Rattle.scope_model.specs.declared.Plug.{Plug}
use Rattle.scope_resolve.specs.Inner.Filling.{path}
use Rattle.scope_resolve.proofs.Tests.{none_left, take_whole}
use Rattle.scope_resolve.proofs.Seeing.{AreClimbed, climbed_first, climbed_more, ways_end, bodies_end}
use Rattle.scope_resolve.proofs.ways.climb.Goals as goal

pub loop-left-init : goal.loop-left-init
loop-left-init c =
    let n = c.args.net.now in
    let t = c.args.trail.now in
    let e : vec_len t.plugs ≡ length t.plugs.items = search rules in
    let b = c.args.below.now.items in
    let u = c.args.under.now.items in
    let r = c.args.chain.now.items in
    record {
      within = omega (arith, e, c.len-left.ensures);
      are = subst (λ (ks : List Plug). AreClimbed n.owner.items n.is_body.items (path t) (reverse ks) b u r b u r)
          (sym (take_whole t.plugs.items c.len-left.result (omega (arith, e, c.len-left.ensures)))) (climbed_first n.owner.items n.is_body.items (path t) b u r);
    }

pub loop-left-preserved : goal.loop-left-preserved
loop-left-preserved c =
    let n = c.args.net.now in
    let t = c.args.trail.now in
    record {
      within = omega (arith, c.loop-left.invariant.within);
      are = climbed_more n.owner.items n.is_body.items (path t) t.plugs.items c.loop-left.left c.index.result.now c.args.below.now.items c.args.under.now.items c.args.chain.now.items
          c.loop-left.below.items c.loop-left.under.items c.loop-left.chain.items c.rise.new.below.items c.rise.new.under.items c.rise.new.chain.items
          c.loop-left-test.true c.loop-left.invariant.within c.index.ensures c.rise.ensures.hole c.rise.ensures.label c.rise.ensures.body
          c.rise.ensures.below c.rise.ensures.under c.rise.ensures.chain c.loop-left.invariant.are;
    }

pub returns-clause-ways : goal.returns-clause-ways
returns-clause-ways c =
    let n = c.args.net.now in
    let t = c.args.trail.now in
    ways_end n.owner.items n.is_body.items (path t) c.args.below.now.items c.args.under.now.items c.args.chain.now.items c.loop-left.below.items c.loop-left.under.items c.loop-left.chain.items
    (subst (λ (ks : List Plug). AreClimbed n.owner.items n.is_body.items (path t) ks c.args.below.now.items c.args.under.now.items c.args.chain.now.items c.loop-left.below.items c.loop-left.under.items c.loop-left.chain.items)
    (none_left t.plugs.items c.loop-left.left c.loop-left-test.false) c.loop-left.invariant.are)

pub returns-clause-kept : goal.returns-clause-kept
returns-clause-kept c = c.loop-left.invariant.are.kept

pub returns-clause-bodies : goal.returns-clause-bodies
returns-clause-bodies c =
    let n = c.args.net.now in
    let t = c.args.trail.now in
    bodies_end n.owner.items n.is_body.items (path t) c.args.below.now.items c.args.under.now.items c.args.chain.now.items c.loop-left.below.items c.loop-left.under.items c.loop-left.chain.items
    (subst (λ (ks : List Plug). AreClimbed n.owner.items n.is_body.items (path t) ks c.args.below.now.items c.args.under.now.items c.args.chain.now.items c.loop-left.below.items c.loop-left.under.items c.loop-left.chain.items)
    (none_left t.plugs.items c.loop-left.left c.loop-left-test.false) c.loop-left.invariant.are)
