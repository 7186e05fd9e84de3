use Rattle.std.proofs.Common.{◌≡◌, slice_index_or, subst, arith}
use Rattle.std.proofs.lemmas.Grind.{common_steps}
use Rattle.fs_closing.specs.Rules.{IsGrammar, no_rule}
use Rattle.fs_closing.proofs.system.TypeSystem.rule_type.Goals as goal

pub returns-clause-within : goal.returns-clause-within
returns-clause-within c =
    let g : IsGrammar c.args.self.now = subst IsGrammar c.self.view_is c.self.invariant.grammar in
    let value : c.index.result.now.ty.0 ≡ (slice_index_or c.args.self.now.rules c.args.rule no_rule).ty = grind (arith, common_steps) in
    omega (arith, value, g.rule_types c.args.rule c.requires)
