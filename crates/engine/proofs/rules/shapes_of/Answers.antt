use Rattle.std.proofs.Common.{◌≡◌, ◌∙◌, All, map, sym, ap, subst}
use Rattle.fs_model.specs.Claims.{IsBare}
use Rattle.fs_graph.specs.GraphMap.{reader_of}
use Rattle.fs_unify.specs.Entering.{IsWellFormed}
use Rattle.fs_unify.specs.Rules.{Grammar, system_of}
use Rattle.fs_trim.specs.Cutting.{cut_of}
use Rattle.tree_model.specs.Signs.{rule_system, placed_rules}
use Rattle.book_signs.specs.Trees.{signs_of, rule_at}
use Rattle.grammar_shapes.specs.Ruled.{rule_of, paths_in, IsRuleIn, AreClosed, system_in}
use Rattle.engine.specs.Inner.Ruled.{IsPhraseRuleAt}
use Rattle.engine.proofs.RuleLemmas.{kinds-there, rules-there, unsome, has-all}
use Rattle.engine.proofs.rules.shapes_of.Goals as goal

pub phrase_rules-requires-2 : goal.phrase_rules-requires-2
phrase_rules-requires-2 c = subst (All (IsPhraseRuleAt (signs_of c.args.signs.now))) (sym c.phrase_rules.ensures) (kinds-there (signs_of c.args.signs.now))

pub make-requires-clause-bare : goal.make-requires-clause-bare
make-requires-clause-bare c = subst (λ (s : Grammar). IsBare (system_of s)) (sym c.system-system.ensures) c.laws.ensures.whole.bare

pub make-requires-clause-rules_in : goal.make-requires-clause-rules_in
make-requires-clause-rules_in c = subst (λ (s : Grammar). All (IsRuleIn s) c.in_ok-rules.rules.items) (sym c.system-system.ensures) c.in_ok-rules.ensures.within

pub make-requires-clause-closed : goal.make-requires-clause-closed
make-requires-clause-closed c =
    subst (λ (s : Grammar). AreClosed s c.in_ok-rules.rules.items) (sym c.system-system.ensures)
    (λ r k. has-all (λ q. IsWellFormed (system_of c.args.signs.now.book.system) (reader_of q.structure.now)) r c.in_ok-rules.rules.items c.in_ok-rules.ensures.closed k)

pub returns : goal.returns
returns c =
    let t = c.args.signs.now in
    let g = signs_of t in
    let sys = t.book.system in
    let rules = c.in_ok-rules.rules.items in
    let told = c.in_ok-rules.ensures.rules ∙ ap (map (rule_at g)) c.phrase_rules.ensures ∙ rules-there g in
    let same = unsome (rule_of sys) (λ r. r.1) rules (placed_rules g) told in
    let daughters = c.in_ok-daughters.ensures ∙ c.daughters.ensures in
    let restrictors = c.in_ok-restrictors.ensures ∙ c.restrictors.ensures in
    let whole : system_in sys rules (cut_of c.in_ok-daughters.daughters) (cut_of c.in_ok-restrictors.restrictors) ≡ rule_system g
    = λ k. record { system = system_of sys; paths = paths_in sys; rules = same k; daughters = daughters k; restrictors = restrictors k } in
    let first = ap (λ s. system_in s rules (cut_of c.in_ok-daughters.daughters) (cut_of c.in_ok-restrictors.restrictors)) c.system-system.ensures in
    record { grammar = c.in_ok-shapes.ensures.grammar ∙ c.system-system.ensures; rules = c.in_ok-shapes.ensures.rules ∙ first ∙ whole }
