use Rattle.std.proofs.Common.{◌≡◌, ◌++◌, ◌∷◌, [], ◌∙◌, ◌+◌, Some, All, map, take, sym, ap, subst, get_or}
use Rattle.std.proofs.lemmas.List.{map-append, take_more}
use Rattle.std.proofs.lemmas.List.Elements.{All-append, All-cons, All-nil}
use Rattle.fs_graph.specs.GraphMap.{reader_of}
use Rattle.fs_closing.specs.Rules.{system_of}
use Rattle.fs_unify.specs.Entering.{IsWellFormed}
use Rattle.book_signs.specs.Trees.{signs_of, rule_at}
use Rattle.grammar_shapes.specs.declared.phrase_rule.PhraseRule.{PhraseRule}
use Rattle.grammar_shapes.specs.Ruled.{rule_of, IsRuleIn}
use Rattle.engine.proofs.rules.phrase_rules.Goals as goal

pub loop-place-preserved : goal.loop-place-preserved
loop-place-preserved c =
    let t = c.args.signs.now in
    let sys = t.book.system in
    let old = c.loop-place.rules.items in
    let x = c.in_ok-phrase_rule.field-0 in
    let well = λ (r : PhraseRule). IsWellFormed (system_of sys) (reader_of r.structure.now) in
    let told = λ (r : PhraseRule). Some (rule_of sys r) in
    let pushed = ap (map told) c.in_ok-push.ensures.items ∙ map-append told old (x ∷ []) in
    let g = signs_of t in
    let ps = c.args.places.now in
    let i = c.loop-place.place-index in
    let more : take (i + 1) ps ≡ take i ps ++ get_or ps i 0 ∷ [] = take_more ps i 0 c.loop-place-test.true in
    let rule : Some (rule_of sys x) ≡ rule_at g (get_or ps i 0) = c.in_ok-phrase_rule.ensures.rule in
    let grown = ap (λ r. map (rule_at g) (take i ps) ++ r ∷ []) rule ∙ sym (map-append (rule_at g) (take i ps) (get_or ps i 0 ∷ [])) ∙ ap (map (rule_at g)) (sym more) in (
      pushed ∙ ap (λ z. z ++ told x ∷ []) c.loop-place.invariant.0 ∙ grown,
      subst (All (IsRuleIn sys)) (sym c.in_ok-push.ensures.items) (All-append (IsRuleIn sys) old (x ∷ []) c.loop-place.invariant.1 (All-cons (IsRuleIn sys) x [] c.in_ok-phrase_rule.ensures.within (All-nil (IsRuleIn sys)))),
      subst (All well) (sym c.in_ok-push.ensures.items) (All-append well old (x ∷ []) c.loop-place.invariant.2 (All-cons well x [] c.in_ok-phrase_rule.ensures.closed (All-nil well))),
    )
