use Rattle.std.proofs.Common.{[], ◌∷◌, ◌++◌, sym, ap, ◌∙◌, subst}
use Rattle.fs_model.specs.Claims.{exists_at, same}
use Rattle.forced_types.specs.Forced.{same_exists}
use Rattle.forced_types.specs.Inner.Sound.{Forces, path_in}
use Rattle.forced_types.proofs.nodes.Nodes.shorten.Goals as goal

pub add_node-requires-clause-forced : goal.add_node-requires-clause-forced
add_node-requires-clause-forced c =
    subst (λ x. Forces c.args.given (exists_at x)) (sym (c.in_ok-path.ensures ∙ ap (λ x. x ++ c.in-Some.arc.feat.0 ∷ []) c.path.ensures)) (same_exists _ _ c.in-Some.ensures.forced)

pub add_pair-requires-clause-forced : goal.add_pair-requires-clause-forced
add_pair-requires-clause-forced c =
    let kept = c.in_ok-near.ensures.keeps.same_at c.in-Some.arc.to.0 c.in-Some.ensures.to_in in
    let near = c.in_ok-near.ensures.path ∙ c.in_ok-path.ensures ∙ ap (λ x. x ++ c.in-Some.arc.feat.0 ∷ []) c.path.ensures in
    subst (λ x. Forces c.args.given (same x (path_in c.add_node.new.self c.in-Some.arc.to.0))) (sym near)
    (subst (λ x. Forces c.args.given (same (path_in c.args.self.now c.args.n ++ c.in-Some.arc.feat.0 ∷ []) x)) (sym kept) c.in-Some.ensures.forced)
