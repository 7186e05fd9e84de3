use Rattle.std.proofs.Common.{sym, subst}
use Rattle.fs_model.specs.Claims.{Has}
use Rattle.forced_types.specs.declared.search.Aim.{Aim}
use Rattle.forced_types.specs.Inner.Search.{IsGoal}
use Rattle.forced_types.proofs.nodes.Nodes.is_goal.Goals as goal

pub returns-in-None-clause-none : goal.returns-in-None-clause-none
returns-in-None-clause-none c = λ _ h.
    let k = subst (λ (x : Aim). IsGoal c.args.given c.args.self.now x c.args.n c.args.length) c.in-Clash.is h in
    c.in-None.ensures.none k.first (subst (Has k.first) (sym c.types.ensures) k.first_has) k.second (subst (Has k.second) (sym c.types.ensures) k.second_has) k.apart
