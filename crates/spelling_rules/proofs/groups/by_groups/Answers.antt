use Rattle.std.proofs.Common.{rules, arith, ◌≡◌, ◌∙◌, ◌+◌, ◌-◌, ◌<◌, ◌≤◌, ◌++◌, ◌==◌, ◌&&◌, ◌⊎◌, inl, inr, ℕ, Bool, true, false, cond, List, [], ◌∷◌, length, map, filter, take, drop, get_or, Option, Some, None, string_bytes, refl, sym, ap, subst}
use Rattle.spelling_rules.proofs.Lists.{drop_map_at}
use Rattle.spelling_rules.proofs.FormLemmas.{found_in_rest, some_of, none_of}
use Rattle.spelling_rules.specs.Views.{sign_of, group_of, rule_of, line_of, words_in, letters_in}
use Rattle.spelling_rules.specs.Inner.Rewriting.{by_groups, rewritten, later}
use Rattle.spelling_rules.proofs.groups.by_groups.Goals as goal

pub returns-then-is_some : goal.returns-then-is_some
returns-then-is_some c =
    let G = map group_of c.args.groups.now in
    let n = length c.args.groups.now in
    let i = n - 1 - c.loop-k.k in
    let lt : i < n = omega arith in
    let next : i + 1 ≡ n - c.loop-k.k = omega arith in
    let here = drop_map_at group_of c.args.groups.now i c.index-groups-count.result lt c.index-groups-count.is in
    let rest : by_groups c.args.suffix (drop (i + 1) G) c.args.letters.now ≡ None = ap (λ j. by_groups c.args.suffix (drop j G) c.args.letters.now) next ∙ c.loop-k.invariant in
    let m = some_of letters_in c.in_ok-made.made (sym c.is_some.ensures ∙ c.if-is_some.true) in
    let found : by_groups c.args.suffix (drop i G) c.args.letters.now ≡ Some m.0 =
    ap (λ l. by_groups c.args.suffix l c.args.letters.now) here ∙ ap (λ o. later o (rewritten c.args.suffix (group_of c.index-groups-count.result) c.args.letters.now)) rest ∙ sym c.in_ok-made.ensures ∙ m.1 in
    m.1 ∙ sym (found_in_rest c.args.suffix G i c.args.letters.now m.0 found)

pub loop-k-preserved : goal.loop-k-preserved
loop-k-preserved c =
    let G = map group_of c.args.groups.now in
    let n = length c.args.groups.now in
    let i = n - 1 - c.loop-k.k in
    let lt : i < n = omega arith in
    let next : i + 1 ≡ n - c.loop-k.k = omega arith in
    let now : n - (c.loop-k.k + 1) ≡ i = omega arith in
    let here = drop_map_at group_of c.args.groups.now i c.index-groups-count.result lt c.index-groups-count.is in
    let rest : by_groups c.args.suffix (drop (i + 1) G) c.args.letters.now ≡ None = ap (λ j. by_groups c.args.suffix (drop j G) c.args.letters.now) next ∙ c.loop-k.invariant in
    ap (λ j. by_groups c.args.suffix (drop j G) c.args.letters.now) now
    ∙ ap (λ l. by_groups c.args.suffix l c.args.letters.now) here ∙ ap (λ o. later o (rewritten c.args.suffix (group_of c.index-groups-count.result) c.args.letters.now)) rest
    ∙ sym c.in_ok-made.ensures ∙ none_of letters_in c.in_ok-made.made (sym c.is_some.ensures ∙ c.if-is_some.false)
