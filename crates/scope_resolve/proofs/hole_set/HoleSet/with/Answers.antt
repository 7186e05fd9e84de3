use Rattle.scope_resolve.proofs.Sets.{more_has, more_others, more_kept}
use Rattle.scope_resolve.proofs.hole_set.HoleSet.with.Goals as goal

pub returns-clause-kept : goal.returns-clause-kept
returns-clause-kept c = more_kept c.args.self c.args.place c.min.result c.min.ensures

pub returns-clause-added : goal.returns-clause-added
returns-clause-added c = more_has c.args.self c.args.place c.min.result c.min.ensures

pub returns-clause-others : goal.returns-clause-others
returns-clause-others c = more_others c.args.self c.args.place c.min.result c.min.ensures
