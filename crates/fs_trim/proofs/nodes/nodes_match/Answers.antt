use Rattle.std.proofs.Common.{refl, arith}
use Rattle.fs_trim.proofs.MeetLemmas.{next_met, all_matched}
use Rattle.fs_trim.proofs.MarkLemmas.{matched_more, root_still}
use Rattle.fs_trim.proofs.nodes.nodes_match.Goals as goal

pub node_matches-requires-clause-met : goal.node_matches-requires-clause-met
node_matches-requires-clause-met c =
    let count = c.nodes-nodes.ensures.count in
    let low = c.loop-n-test.true in
    next_met c.args.general.now c.args.special.now c.nodes-nodes.ensures.graph c.nodes.ensures.graph c.loop-n.marks c.loop-n.n (omega arith)
    c.loop-n.invariant.root (λ k l. (c.loop-n.invariant.matched k l).arcs)

pub loop-n-preserved : goal.loop-n-preserved
loop-n-preserved c =
    let yes = c.if-not-node_matches.false in
    let ext = c.node_matches.ensures.extends yes in
    record {
      seen = c.node_matches.ensures.seen yes;
      root = root_still c.loop-n.marks c.node_matches.new.marks ext c.loop-n.invariant.root;
      matched =
          matched_more c.args.types.now c.args.general.now c.args.special.now c.loop-n.marks c.node_matches.new.marks c.loop-n.n ext c.loop-n.invariant.matched
          (c.node_matches.ensures.matched yes);
    }

pub returns : goal.returns
returns c =
    λ s order. (
      λ _.
          let count = c.nodes-nodes.ensures.count in
          let high = c.loop-n-test.false in
          all_matched c.args.general.now c.args.special.now c.nodes-nodes.ensures.graph c.nodes.ensures.graph c.args.types.now c.loop-n.marks
          c.loop-n.invariant.root (λ k l. c.loop-n.invariant.matched k (omega arith)) s order,
      λ _. refl,
    )
