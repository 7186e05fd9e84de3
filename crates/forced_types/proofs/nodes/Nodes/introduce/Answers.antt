use Rattle.std.proofs.Common.{sym, subst}
use Rattle.fs_model.specs.Claims.{below}
use Rattle.forced_types.specs.Forced.{same_exists, introduced}
use Rattle.forced_types.specs.Inner.Sound.{Forces, path_in}
use Rattle.forced_types.proofs.nodes.Nodes.introduce.Goals as goal

pub add_type-requires-clause-forced : goal.add_type-requires-clause-forced
add_type-requires-clause-forced c =
    subst (λ x. Forces c.args.given (below (path_in c.args.self.now c.args.n) x)) (sym c.introducer.ensures.value)
    (introduced (path_in c.args.self.now c.args.n) c.in-Some.arc.feat.0 (same_exists _ _ c.in-Some.ensures.forced))
