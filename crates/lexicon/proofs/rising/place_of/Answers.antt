use Rattle.std.proofs.Common.{◌∙◌, sym, ap, map, string_bytes, length, arith, below_more, ◌<◌, ◌≤◌}
use Rattle.std.proofs.lemmas.List.{length-map}
use Rattle.lexicon.specs.Words.{compared}
use Rattle.lexicon.proofs.WordLemmas.{less_at, equal_at, after_all, word_at}
use Rattle.lexicon.proofs.rising.place_of.Goals as goal

pub returns-in-Less : goal.returns-in-Less
returns-in-Less c =
    let ws = map string_bytes c.args.list.now in
    let w = string_bytes c.args.word.now in
    let all = length-map c.args.list.now string_bytes in
    let lt : c.loop-i.i < length ws = omega (arith, all) in
    let x = word_at c.args.list.now c.loop-i.i c.index-list-i.result c.loop-i-test.true c.index-list-i.is in
    (omega arith, less_at w ws c.loop-i.i c.loop-i.invariant lt (ap (compared w) (sym x) ∙ sym c.cmp.ensures ∙ c.in-Less.is))

pub returns-in-Equal : goal.returns-in-Equal
returns-in-Equal c =
    let ws = map string_bytes c.args.list.now in
    let w = string_bytes c.args.word.now in
    let all = length-map c.args.list.now string_bytes in
    let lt : c.loop-i.i < length ws = omega (arith, all) in
    let x = word_at c.args.list.now c.loop-i.i c.index-list-i.result c.loop-i-test.true c.index-list-i.is in
    equal_at w ws c.loop-i.i c.loop-i.invariant lt (ap (compared w) (sym x) ∙ sym c.cmp.ensures ∙ c.in-Equal.is)

pub loop-i-preserved : goal.loop-i-preserved
loop-i-preserved c =
    let w = string_bytes c.args.word.now in
    let x = word_at c.args.list.now c.loop-i.i c.index-list-i.result c.loop-i-test.true c.index-list-i.is in
    below_more _ _ c.loop-i.invariant (ap (compared w) (sym x) ∙ sym c.cmp.ensures ∙ c.in-Greater.is)

pub returns : goal.returns
returns c =
    let ws = map string_bytes c.args.list.now in
    let w = string_bytes c.args.word.now in
    let all = length-map c.args.list.now string_bytes in
    let le : length c.args.list.now ≤ length ws = omega (arith, all) in
    (le, after_all w ws (length c.args.list.now) (sym all) (λ k h. c.loop-i.invariant k (omega arith)))
