use Rattle.std.proofs.Common.{◌≡◌, None, [], ◌∷◌, ◌++◌, sym, subst, ap, ◌∙◌}
use Rattle.fs_model.specs.Claims.{same}
use Rattle.fs_graph.specs.GraphMap.{arc_to}
use Rattle.forced_types.specs.Forced.{same_refl}
use Rattle.forced_types.specs.Inner.Entries.{Entry}
use Rattle.forced_types.specs.Inner.Sound.{Forces, path_in}
use Rattle.forced_types.proofs.nodes.Nodes.grow.Goals as goal

pub add_arc-requires-clause-forced : goal.add_arc-requires-clause-forced
add_arc-requires-clause-forced c =
    let t = c.args.self.now in
    let t' = c.add_node.new.self in
    let f = c.args.feat.0 in
    let kept : path_in t' c.args.n ≡ path_in t c.args.n = c.in_ok-to.ensures.keeps.same_at c.args.n c.requires.node in
    let end : path_in t' c.in_ok-to.to ≡ path_in t c.args.n ++ f ∷ [] = c.in_ok-to.ensures.path ∙ c.in_ok-path.ensures ∙ ap (λ x. x ++ f ∷ []) c.path.ensures in
    subst (λ x. Forces c.args.given (same (x ++ f ∷ []) (path_in t' c.in_ok-to.to))) (sym kept)
    (subst (λ x. Forces c.args.given (same (path_in t c.args.n ++ f ∷ []) x)) (sym end) (same_refl _ c.requires.forced))

pub add_arc-requires-clause-lacks : goal.add_arc-requires-clause-lacks
add_arc-requires-clause-lacks c = subst (λ (e : Entry). arc_to e.arcs c.args.feat.0 ≡ None) (sym (c.in_ok-to.ensures.others c.args.n c.requires.node)) c.requires.lacks
