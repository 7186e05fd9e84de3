use Rattle.std.proofs.Common.{◌≡◌, Some, arith, sym, subst}
use Rattle.std.proofs.lemmas.List.{take-map}
use Rattle.fs_graph.specs.declared.facts.Feat.{Feat}
use Rattle.fs_graph.specs.Facts.{path_of}
use Rattle.std.proofs.lemmas.List.{length-map}
use Rattle.forced_types.specs.Inner.Closed.{walk_in}
use Rattle.forced_types.proofs.ClosedSteps.{front, front_whole}
use Rattle.forced_types.proofs.nodes.Nodes.has_front.Goals as goal

pub returns-then-path-left : goal.returns-then-path-left
returns-then-path-left c = λ yes. let r = c.is_there.ensures yes in front_whole c.args.self.now c.args.n c.args.left r.0 (path_of c.args.path.now) r.1

pub returns : goal.returns
returns c = λ yes.
    let r = c.is_there-2.ensures yes in
    front c.args.self.now c.args.n c.args.left r.0 (path_of c.args.path.now) (omega (arith, length-map c.args.path.now (λ (x : Feat). x.0), c.if-path-left.false))
    (subst (λ x. walk_in c.args.self.now c.args.n x ≡ Some r.0) (sym (take-map (λ (x : Feat). x.0) c.args.left c.args.path.now)) r.1)
