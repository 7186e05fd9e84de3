use Rattle.std.proofs.Common.{◌++◌, [], ◌∷◌, slice_index_or, filter, sym, ◌∙◌, ap, cond}
use Rattle.std.proofs.lemmas.List.{get_or-map}
use Rattle.std.specs.List.{range_with_len}
use Rattle.fs_closing.specs.Rules.{no_rule, has_facts}
use Rattle.fs_closing.specs.Systems.{rule_of, rules_of}
use Rattle.fs_closing.proofs.RangeLemmas.{filter_more}
use Rattle.fs_closing.proofs.outline.with_facts.Goals as goal

pub loop-j-preserved : goal.loop-j-preserved
loop-j-preserved c =
    let rule = get_or-map rule_of c.args.constraints.now c.loop-j.j c.index-constraints-j.result no_rule c.loop-j-test.true ∙ ap rule_of (sym c.index-constraints-j.is) in
    c.in_ok-push_if.ensures
    ∙ ap (λ l. l ++ cond c.says_something-wanted.result (c.loop-j.j ∷ []) []) c.loop-j.invariant
    ∙ ap (λ b. filter (λ k. has_facts (slice_index_or (rules_of c.args.constraints.now) k no_rule)) (range_with_len 0 c.loop-j.j) ++ cond b (c.loop-j.j ∷ []) [])
    (c.says_something-wanted.ensures ∙ ap has_facts (sym rule))
    ∙ sym (filter_more _ c.loop-j.j)
