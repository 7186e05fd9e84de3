use Rattle.std.proofs.Common.{◌<◌, length, take, slice_index_or, sym, ◌∙◌, ap, arith}
use Rattle.std.proofs.lemmas.List.{get_or-map, length-map, take_more}
use Rattle.fs_closing.specs.Rules.{no_rule, has_facts}
use Rattle.fs_closing.specs.Systems.{rule_of, rules_of}
use Rattle.fs_closing.proofs.OutlineLemmas.{marks_more}
use Rattle.fs_closing.proofs.outline.marks_of.Goals as goal

pub loop-j-preserved : goal.loop-j-preserved
loop-j-preserved c =
    let rules = rules_of c.args.constraints.now in
    let place = slice_index_or c.args.list.now c.loop-j.j-index 0 in
    let rule = get_or-map rule_of c.args.constraints.now place c.index-constraints-place.result no_rule c.if-place-constraints.false
    ∙ ap rule_of (sym c.index-constraints-place.is) in
    let within : slice_index_or c.args.list.now c.loop-j.j-index 0 < length (rules_of c.args.constraints.now) =
    omega (arith, length-map c.args.constraints.now rule_of, c.if-place-constraints.false) in
    marks_more rules (take c.loop-j.j-index c.args.list.now) _ c.loop-j.marks.items place (take_more c.args.list.now c.loop-j.j-index 0 c.loop-j-test.true) within
    (ap has_facts rule ∙ sym c.says_something.ensures ∙ c.if-not-says_something.false) c.loop-j.invariant
