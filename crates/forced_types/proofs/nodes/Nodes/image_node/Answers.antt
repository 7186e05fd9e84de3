use Rattle.std.proofs.Common.{◌≡◌, [], ◌∷◌, ◌++◌, sym, subst, ap, ◌∙◌}
use Rattle.fs_model.specs.Claims.{exists_at}
use Rattle.fs_graph.specs.Facts.{path_of}
use Rattle.forced_types.specs.declared.nodes.Image.{Image}
use Rattle.forced_types.specs.Inner.Sound.{Forces, IsImage}
use Rattle.forced_types.proofs.nodes.Nodes.image_node.Goals as goal

pub add_node-requires-clause-forced : goal.add_node-requires-clause-forced
add_node-requires-clause-forced c =
    subst (λ x. Forces c.args.given (exists_at x)) (sym (c.in_ok-path.ensures ∙ ap (λ x. x ++ c.args.feat.0 ∷ []) c.path.ensures)) c.requires.there

pub add_node-requires-clause-image : goal.add_node-requires-clause-image
add_node-requires-clause-image c = λ im e.
    let is : c.args.end ≡ im = cc in
    subst (λ (x : Image). IsImage c.args.given.parts.now (path_of c.in_ok-path.path.items) x) is
    (subst (λ x. IsImage c.args.given.parts.now x c.args.end) (sym (c.in_ok-path.ensures ∙ ap (λ x. x ++ c.args.feat.0 ∷ []) c.path.ensures)) c.requires.image)
