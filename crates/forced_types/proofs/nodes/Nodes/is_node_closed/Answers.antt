use Rattle.std.proofs.Common.{◌≡◌, arith, subst}
use Rattle.forced_types.specs.Inner.Closed.{AreTypesClosed, HoldsAt}
use Rattle.forced_types.proofs.nodes.Nodes.is_node_closed.Goals as goal

pub returns : goal.returns
returns c = λ yes _.
    let types = c.args.given.system.now.types in
    record {
      types = subst (AreTypesClosed types) c.types.ensures (c.are_types_closed.ensures c.if-not-are_types_closed.false);
      arcs = c.are_arcs_closed.ensures c.if-not-are_arcs_closed.false;
      facts = λ u left d cov h e.
          let is : c.saturating_sub-left.result ≡ left = omega (arith, c.saturating_sub-left.ensures, c.most.ensures, c.depth.ensures, e) in
          subst (λ x. HoldsAt types c.args.self.now c.args.n x d) is (c.holds_all.ensures yes u cov d h);
    }
