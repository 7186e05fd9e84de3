use Rattle.std.proofs.Common.{◌≡◌, ◌<◌, ◌≤◌, ◌++◌, length, vec_len, ap, ◌∙◌, arith, rules}
use Rattle.scope_resolve.specs.Inner.Pruning.{may_stand, those}
use Rattle.scope_resolve.proofs.Tests.{take_whole}
use Rattle.scope_resolve.proofs.Candidates.{those_on}
use Rattle.scope_resolve.proofs.choosing.put_candidates.Goals as goal

pub loop-k-preserved : goal.loop-k-preserved
loop-k-preserved c =
    let n = c.args.net.now in
    let e : vec_len n.labels ≡ length n.labels.items = search rules in
    let lt : c.loop-k.k < length n.labels.items = omega (arith, e, c.len-k-end.ensures, c.loop-k-test.true) in
    those_on (may_stand c.args.ways.now.placed.items c.args.masks.now.sets.items n.is_label.items c.args.place c.args.hole) n.labels.items c.loop-k.k c.index-label.result.now c.may_stand-stands.result _ _ _ lt c.index-label.ensures
    c.may_stand-stands.ensures c.in_ok-put_candidate.ensures.yes c.in_ok-put_candidate.ensures.no c.loop-k.invariant

pub returns : goal.returns
returns c =
    let n = c.args.net.now in
    let e : vec_len n.labels ≡ length n.labels.items = search rules in
    let le : length n.labels.items ≤ c.loop-k.k = omega (arith, e, c.len-k-end.ensures, c.loop-k-test.false) in
    c.loop-k.invariant ∙ ap (λ ls. c.args.out.now.items ++ those (may_stand c.args.ways.now.placed.items c.args.masks.now.sets.items n.is_label.items c.args.place c.args.hole) ls) (take_whole n.labels.items c.loop-k.k le)
