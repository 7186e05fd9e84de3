use Rattle.std.proofs.Common.{◌<◌, length, arith, sym, subst}
use Rattle.fs_model.specs.Claims.{Has}
use Rattle.fs_graph.specs.declared.facts.Fact.{Fact}
use Rattle.fs_graph.specs.Facts.{claim_of, claims_of}
use Rattle.fs_closing.specs.Rules.{facts_in}
use Rattle.fs_closing.proofs.HasLemmas.{Has-at, Has-map}
use Rattle.fs_closing.proofs.StepLemmas.{rule_of_fact}
use Rattle.forced_types.specs.Forced.{raised}
use Rattle.forced_types.specs.Inner.Sound.{path_in}
use Rattle.forced_types.proofs.SoundLemmas.{entry_count}
use Rattle.forced_types.proofs.StepLemmas.{may_put}
use Rattle.forced_types.proofs.nodes.Nodes.apply.Goals as goal

pub put-requires-clause-put : goal.put-requires-clause-put
put-requires-clause-put c =
    let g = c.args.given in
    let t = c.args.self.now in
    let rules = g.system.now.rules in
    let fact = c.index-facts-k.result in
    let at = c.requires.entries.each c.args.n (omega (arith, entry_count t, c.if-n-size.false, c.size.ensures)) in
    let cov = c.covers.ensures c.if-not-covers.false in
    let low = raised (path_in t c.args.n) cov.lower c.rule_type.result (at.type_forced cov.lower cov.has) cov.under in
    let rule_in : c.args.rule < length rules = omega (arith, c.if-rule-rule_count.false, c.rule_count.ensures) in
    let listed : Has fact c.facts-facts.result.now =
    subst (λ (x : Fact). Has x c.facts-facts.result.now) (sym c.index-facts-k.is) (Has-at c.facts-facts.result.now c.args.k fact (omega (arith, c.if-k-facts.false))) in
    let claimed : Has (claim_of fact) (claims_of c.facts-facts.result.now) = Has-map claim_of fact c.facts-facts.result.now listed in
    let stated = rule_of_fact rules c.args.rule (claim_of fact) rule_in (subst (Has (claim_of fact)) c.facts-facts.ensures.value claimed) in
    may_put g (path_in t c.args.n) c.rule_type.result (claim_of fact) low
    (subst (λ x. Has (claim_of fact) (facts_in rules x)) (sym c.rule_type.ensures.value) stated) (c.facts-facts.ensures.within (claim_of fact) claimed)
