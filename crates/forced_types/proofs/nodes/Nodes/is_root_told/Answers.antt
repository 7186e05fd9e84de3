use Rattle.std.proofs.Common.{◌≡◌, ◌≤◌, ◌<◌, length, arith, sym, subst, ap, ◌∙◌, Some}
use Rattle.std.proofs.lemmas.Bool.{eqb-true}
use Rattle.std.proofs.lemmas.List.{length-map}
use Rattle.fs_graph.specs.declared.facts.Feat.{Feat}
use Rattle.fs_graph.specs.Facts.{path_of}
use Rattle.forced_types.specs.Inner.Sound.{size_of, entry_in, path_in}
use Rattle.forced_types.specs.Inner.Told.{spot_at}
use Rattle.forced_types.proofs.nodes.Nodes.is_root_told.Goals as goal

pub returns-in-Some : goal.returns-in-Some
returns-in-Some c = λ yes.
    let t = c.args.self.now in
    let root : c.spot-root.result ≡ spot_at c.args.spots.now 0 = c.spot-root.ensures in
    record {
      inside = subst (λ x. x < size_of t) root (omega (arith, c.if-root-size.false, c.size.ensures));
      near = subst (λ x. length (path_in t x) ≤ length (path_of c.args.part.at.now)) root
          (omega (arith, c.depth.ensures, c.if-depth-part.false, length-map c.args.part.at.now (λ (x : Feat). x.0)));
      leads = sym c.follow.ensures ∙ c.in-Some.is ∙ ap Some (eqb-true _ _ yes ∙ c.up.ensures ∙ ap (λ x. (entry_in t x).up) root);
    }
