use Rattle.std.proofs.Common.{arith, ◌∙◌, map, string_bytes, sym, ap, below_more}
use Rattle.lexicon.proofs.GroupLemmas.{at_place, no_place, group_is}
use Rattle.lexicon.specs.Groups.{group_of}
use Rattle.lexicon.specs.Entries.{same_words}
use Rattle.std.proofs.lemmas.List.{length-map}
use Rattle.lexicon.proofs.groups.place_of.Goals as goal

pub returns-then-are_same : goal.returns-then-are_same
returns-then-are_same c =
    let all = length-map c.args.groups.now group_of in
    let ws = map string_bytes c.args.words.now in
    let here = group_is c.args.groups.now c.loop-i.i c.index-groups-i.result c.loop-i-test.true c.index-groups-i.is in
    at_place (map group_of c.args.groups.now) ws c.loop-i.i c.loop-i.invariant (omega (arith, all))
    (ap (λ g. same_words g.words ws) here ∙ ap (λ l. same_words (map string_bytes l) ws) (sym c.deref.ensures.value) ∙ sym c.are_same.ensures ∙ c.if-are_same.true)

pub loop-i-preserved : goal.loop-i-preserved
loop-i-preserved c =
    let ws = map string_bytes c.args.words.now in
    let here = group_is c.args.groups.now c.loop-i.i c.index-groups-i.result c.loop-i-test.true c.index-groups-i.is in
    below_more _ _ c.loop-i.invariant (ap (λ g. same_words g.words ws) here ∙ ap (λ l. same_words (map string_bytes l) ws) (sym c.deref.ensures.value) ∙ sym c.are_same.ensures ∙ c.if-are_same.false)

pub returns : goal.returns
returns c =
    let all = length-map c.args.groups.now group_of in
    no_place (map group_of c.args.groups.now) (map string_bytes c.args.words.now) c.loop-i.i (omega (arith, all)) c.loop-i.invariant
