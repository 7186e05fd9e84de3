use Rattle.std.proofs.Common.{◌<◌, ◌+◌, length, refl, arith}
use Rattle.fs_closing.specs.Rules.{system_of}
use Rattle.fs_unify.proofs.EnterLemmas.{owes_more}
use Rattle.fs_unify.proofs.entering.push_nodes.Goals as goal

pub loop-k-preserved : goal.loop-k-preserved
loop-k-preserved c =
    let k_in : c.loop-k.k < length c.args.graph.now.types = omega (arith, c.loop-k-test.true, c.nodes-k-end.ensures.count) in
    let g = c.args.system.now in
    record {
      owes = owes_more (system_of g) c.args.offset c.loop-k.k (c.args.offset + c.loop-k.k) c.args.graph.now c.ty.result.0 c.arcs.result.now _ _ _ _ c.requires.bare refl refl
          c.ty.ensures c.arcs.ensures c.loop-k.invariant.owes c.in_ok-push_rules.ensures.work c.in_ok-push_introducers.ensures.work;
      ready = λ size h old.
          let inside : c.args.offset + c.loop-k.k < size = omega (arith, k_in, h) in
          c.in_ok-push_introducers.ensures.ready size (length g.rules) inside (c.in_ok-push_rules.ensures.ready size _ inside (c.loop-k.invariant.ready size h old));
    }
