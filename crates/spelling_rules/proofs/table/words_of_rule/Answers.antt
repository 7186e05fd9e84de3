use Rattle.std.proofs.Common.{rules, arith, ◌≡◌, ◌∙◌, ◌+◌, ◌-◌, ◌<◌, ◌≤◌, ◌++◌, ◌==◌, ◌&&◌, ◌⊎◌, inl, inr, ℕ, Bool, true, false, cond, List, [], ◌∷◌, length, map, filter, take, drop, get_or, Option, Some, None, string_bytes, refl, sym, ap, subst}
use Rattle.spelling_rules.proofs.Lists.{map_take_next, all_taken}
use Rattle.spelling_rules.proofs.TableLemmas.{with_each-append, rule_words_more, from_none}
use Rattle.spelling_rules.specs.Views.{sign_of, group_of, rule_of, line_of, words_in, letters_in}
use Rattle.spelling_rules.specs.Inner.Tables.{pair_of, words_of_rule, with_each}
use Rattle.spelling_rules.proofs.table.words_of_rule.Goals as goal

pub loop-line-preserved : goal.loop-line-preserved
loop-line-preserved c =
    let i = c.loop-line.line-index in
    let done = map pair_of (take c.loop-line.line-index c.args.lines.now) in
    let one = cond (c.line-item.result.rule == c.args.rule) (string_bytes c.line-item.result.word ∷ []) [] in
    c.in_ok-add_of_rule.ensures ∙ ap (λ l. with_each l one) c.loop-line.invariant ∙ sym (with_each-append [] (words_of_rule c.args.rule done) one)
    ∙ ap (with_each []) (sym (ap (words_of_rule c.args.rule) (map_take_next pair_of c.args.lines.now i c.line-item.result c.loop-line-test.true c.line-item.is) ∙ rule_words_more c.args.rule done (pair_of c.line-item.result)))

pub returns : goal.returns
returns c =
    c.loop-line.invariant ∙ ap (λ l. with_each [] (words_of_rule c.args.rule (map pair_of l))) (all_taken c.args.lines.now c.loop-line.line-index c.loop-line-test.false) ∙ from_none (words_of_rule c.args.rule (map pair_of c.args.lines.now))
