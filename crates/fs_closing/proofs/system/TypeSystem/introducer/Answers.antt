use Rattle.std.proofs.Common.{◌≡◌, slice_index_or, subst, arith}
use Rattle.std.proofs.lemmas.Grind.{common_steps}
use Rattle.fs_closing.specs.Rules.{IsGrammar}
use Rattle.fs_closing.proofs.system.TypeSystem.introducer.Goals as goal

pub returns-clause-within : goal.returns-clause-within
returns-clause-within c =
    let g : IsGrammar c.args.self.now = subst IsGrammar c.self.view_is c.self.invariant.grammar in
    let value : c.index.result.now.0 ≡ slice_index_or c.args.self.now.introducers c.args.feat 0 = grind (arith, common_steps) in
    omega (arith, value, g.introducers c.args.feat c.requires)
