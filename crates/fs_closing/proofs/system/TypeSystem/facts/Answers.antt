use Rattle.std.proofs.Common.{◌≡◌, slice_index_or, subst, arith}
use Rattle.std.proofs.lemmas.Grind.{common_steps}
use Rattle.fs_model.specs.Claims.{Has}
use Rattle.fs_graph.specs.Facts.{claims_of}
use Rattle.fs_closing.specs.Rules.{IsGrammar, no_rule}
use Rattle.fs_closing.proofs.system.TypeSystem.facts.Goals as goal

pub returns-clause-within : goal.returns-clause-within
returns-clause-within c =
    let g : IsGrammar c.args.self.now = subst IsGrammar c.self.view_is c.self.invariant.grammar in
    let value : claims_of c.deref.result.now ≡ (slice_index_or c.args.self.now.rules c.args.rule no_rule).claims = grind (arith, common_steps) in
    λ d h. g.claims c.args.rule d c.requires (subst (Has d) value h)
