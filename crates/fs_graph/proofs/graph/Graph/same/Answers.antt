use Rattle.std.proofs.Common.{refl, sym, ◌∙◌, arith}
use Rattle.fs_graph.proofs.SameLemmas.{equal_graphs, same_graphs, one_graph}
use Rattle.fs_graph.proofs.graph.Graph.same.Goals as goal

pub returns-then-has_lists_of : goal.returns-then-has_lists_of
returns-then-has_lists_of c = (λ _. equal_graphs (c.has_lists_of.ensures c.if-has_lists_of.true), λ _. refl)

pub returns-then-nodes : goal.returns-then-nodes
returns-then-nodes c = (
  λ e. absurd cc,
  λ s.
      let one = one_graph c.args.self.now c.args.other.now c.nodes-nodes.ensures.graph c.nodes.ensures.graph s in
      absurd (c.if-nodes.true (c.nodes-nodes.ensures.count ∙ one.0 ∙ sym c.nodes.ensures.count)),
)

pub returns-then-not-same_node : goal.returns-then-not-same_node
returns-then-not-same_node c = (
  λ e. absurd cc,
  λ s.
      let one = one_graph c.args.self.now c.args.other.now c.nodes-nodes.ensures.graph c.nodes.ensures.graph s in
      let count = c.nodes-nodes.ensures.count in
      let low = c.loop-n-test.true in
      c.if-not-same_node.ensures.1 (one.1 c.loop-n.n (omega arith)),
)

pub returns : goal.returns
returns c = (
  λ e.
      let count = c.nodes-nodes.ensures.count in
      let high = c.loop-n-test.false in
      same_graphs c.args.self.now c.args.other.now c.nodes-nodes.ensures.graph c.nodes.ensures.graph (sym count ∙ c.if-nodes.false ∙ c.nodes.ensures.count)
      (λ k l. c.loop-n.invariant k (omega arith)),
  λ s. refl,
)
