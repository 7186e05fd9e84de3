use Rattle.std.proofs.Common.{◌≡◌, ◌≤◌, ◌<◌, ◌+◌, length, arith, sym, subst, ap, ◌∙◌}
use Rattle.std.proofs.lemmas.Bool.{eqb-true}
use Rattle.fs_graph.specs.GraphMap.{arc_to}
use Rattle.forced_types.specs.Inner.Sound.{size_of, entry_in, path_in}
use Rattle.forced_types.specs.Inner.Told.{spot_at}
use Rattle.forced_types.proofs.nodes.Nodes.has_arc.Goals as goal

pub returns-in-Some : goal.returns-in-Some
returns-in-Some c = λ yes _.
    let t = c.args.self.now in
    let n = c.args.n in
    let to : c.spot-to.result ≡ spot_at c.args.spots.now c.args.arc.to.0 = c.spot-to.ensures in
    record {
      inside = subst (λ x. x < size_of t) to (omega (arith, c.if-to-size.false, c.size.ensures));
      near = subst (λ x. length (path_in t x) ≤ length (path_in t n) + 1) to
          (omega (arith, c.depth-else-to-size.ensures, c.depth-else-to-size-2.ensures, c.saturating_sub.ensures));
      end = c.in-Some.end;
      leads = ap (λ x. arc_to (entry_in t x).arcs c.args.arc.feat.0) (sym c.up.ensures) ∙ sym c.arc_end.ensures.value ∙ c.in-Some.is;
      same_node = sym c.up-in-Some.ensures ∙ eqb-true _ _ yes ∙ c.up-in-Some-2.ensures ∙ ap (λ x. (entry_in t x).up) to;
    }
