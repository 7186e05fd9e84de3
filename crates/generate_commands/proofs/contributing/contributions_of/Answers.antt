use Rattle.std.proofs.Common.{map, subst}
use Rattle.mrs_places.specs.Paths.{feature_of}
use Rattle.generate_commands.specs.Contributing.{AreContributorsOf}
use Rattle.generate_commands.proofs.contributing.contributions_of.Goals as goal

pub contributors_of-requires-clause-paths : goal.contributors_of-requires-clause-paths
contributors_of-requires-clause-paths c = c.laws.ensures.paths.are

pub contributors_of-requires-clause-have : goal.contributors_of-requires-clause-have
contributors_of-requires-clause-have c = c.laws.ensures.have

pub contributors_of-requires-clause-bound : goal.contributors_of-requires-clause-bound
contributors_of-requires-clause-bound c = c.requires.ready.loaded.spelled

pub returns-clause-contributors : goal.returns-clause-contributors
returns-clause-contributors c =
    subst (λ fs. AreContributorsOf c.args.engine.now (map feature_of fs) c.args.lexical c.in_ok-contributors.contributors) c.deref-2.ensures.value c.in_ok-contributors.ensures
